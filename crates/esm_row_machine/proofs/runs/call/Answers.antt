use Rattle.esm_row_machine.proofs.First.{call_ends}
use Rattle.esm_row_machine.proofs.runs.call.Goals as goal

pub returns-in-Ok : goal.returns-in-Ok
returns-in-Ok g c = call_ends g.W.Outside.state g.W.Outside.modules g.W.Outside.linked g.W.Outside.begins g.W.Outside.ready g.W.Outside.keeps g.W.Outside.owns c.args.world.now c.args.rows.now c.args.function c.args.values.items c.in-Ok.frame c.first.new.machine c.first.new.rows c.in-Ok.ensures c.run.result c.run.new.world c.run.new.rows c.run.ensures
