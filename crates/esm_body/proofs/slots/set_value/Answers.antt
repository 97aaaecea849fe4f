use Rattle.esm_body.proofs.SlotPlaces.{slot_set}
use Rattle.esm_body.proofs.slots.set_value.Goals as goal

pub returns : goal.returns
returns c = rw c.index_mut.ensures.value (slot_set c.args.list.now.items c.args.at c.args.value _ c.requires)
