use Rattle.std.proofs.Common.{◌∙◌}
use Rattle.esm_row_machine.proofs.First.{begins_first}
use Rattle.esm_row_machine.proofs.calls.first.Goals as goal

pub returns : goal.returns
returns g c = begins_first g.W.Outside.state g.W.Outside.modules g.W.Outside.linked g.W.Outside.begins g.W.Outside.ready g.W.Outside.keeps g.W.Outside.owns c.args.world.now c.args.rows.now c.args.function c.args.values.items c.stack.new.machine c.begin_first.new.machine c.make.new.self c.len-many.result (c.len-many.ensures ∙ c.args.values.ok.0) c.in_ok-stack.ensures c.in_ok-make.ensures c.begin_first.result c.begin_first.ensures
