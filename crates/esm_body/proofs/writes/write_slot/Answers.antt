use Rattle.std.proofs.Common.{refl}
use Rattle.esm_body.proofs.NamesWritten.{slot_written}
use Rattle.esm_body.proofs.writes.write_slot.Goals as goal

pub level_wrote-requires : goal.level_wrote-requires
level_wrote-requires c = rw c.index.ensures (c.requires.place _)

pub returns-in-Done : goal.returns-in-Done
returns-in-Done c = slot_written c.args.levels.now.items c.args.level c.args.at c.args.value c.level_wrote.result _ c.set_slot.new.levels.items _ c.index.result.now c.level_wrote.ensures.0 c.index.ensures c.level_wrote.ensures.1 c.in-Done.is c.set_slot.ensures

pub returns-in-Unset : goal.returns-in-Unset
returns-in-Unset c = slot_written c.args.levels.now.items c.args.level c.args.at c.args.value c.level_wrote.result _ c.args.levels.now.items _ c.index.result.now c.level_wrote.ensures.0 c.index.ensures c.level_wrote.ensures.1 c.in-Unset.is refl

pub returns-in-Constant : goal.returns-in-Constant
returns-in-Constant c = slot_written c.args.levels.now.items c.args.level c.args.at c.args.value c.level_wrote.result _ c.args.levels.now.items _ c.index.result.now c.level_wrote.ensures.0 c.index.ensures c.level_wrote.ensures.1 c.in-Constant.is refl

pub returns-in-Undeclared : goal.returns-in-Undeclared
returns-in-Undeclared c = slot_written c.args.levels.now.items c.args.level c.args.at c.args.value c.level_wrote.result _ c.args.levels.now.items _ c.index.result.now c.level_wrote.ensures.0 c.index.ensures c.level_wrote.ensures.1 c.in-Undeclared.is refl
