use Rattle.esm_body.proofs.NamesWritten.{level_set}
use Rattle.esm_body.proofs.writes.set_slot.Goals as goal

pub set_value-requires : goal.set_value-requires
set_value-requires c = rw c.index_mut.ensures.value (c.requires.place _)

pub returns : goal.returns
returns c = level_set c.args.levels.now.items c.args.level c.args.at _ c.set_value.new.level c.args.value c.requires.level (rw c.index_mut.ensures.value at c.set_value.ensures)
