use Rattle.esm_row_machine.proofs.Adding.{makes}
use Rattle.esm_row_machine.proofs.rows.Rows.make.Goals as goal

pub returns-then-made : goal.returns-then-made
returns-then-made g c = λ ready home fit. fit

pub returns-in-Some : goal.returns-in-Some
returns-in-Some g c = makes g.W.Outside.state g.W.Outside.modules g.W.Outside.linked g.W.Outside.begins g.W.Outside.ready g.W.Outside.keeps g.W.Outside.owns c.args.world.now c.args.m.0 c.args.function c.in-Some.row c.args.self.now c.add.new.self c.add.result (rw c.in-Some.is at c.in-Ok.ensures) c.add.ensures
