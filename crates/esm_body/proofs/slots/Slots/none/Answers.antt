use Rattle.esm_body.specs.Inner.SlotPlaces.{names_of}
use Rattle.esm_body.proofs.slots.Slots.none.Goals as goal

pub invariant_of-result : goal.invariant_of-result
invariant_of-result c = c.none.ensures (names_of c.new.result.items)
