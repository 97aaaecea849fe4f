use Rattle.esm_body.proofs.SlotPlaces.{indexed_set}
use Rattle.esm_body.proofs.slots.Slots.set.Goals as goal

pub invariant_of-self : goal.invariant_of-self
invariant_of-self c = indexed_set c.self.inside.places c.self.inside.list.items c.set_value.new.list.items c.args.at c.args.value c.set_value.ensures c.self.invariant
