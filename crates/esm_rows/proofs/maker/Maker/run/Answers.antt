use Rattle.std.proofs.Common.{sym, ◌∙◌}
use Rattle.esm_rows.proofs.Worked.{done}
use Rattle.esm_rows.proofs.maker.Maker.run.Goals as goal

pub loop-init : goal.loop-init
loop-init c = λ made owes. owes

pub loop-preserved : goal.loop-preserved
loop-preserved c = λ made owes. c.in_ok-do_work-in-Some.ensures made (rw c.in-Some.ensures.items at (c.loop.invariant made owes))

pub returns-in-None : goal.returns-in-None
returns-in-None c = λ made owes. done c.args.tree.now.exprs c.args.tree.now.stmts c.loop.self.works.items _ _ _ _ (sym c.loop.self.works.ok.0 ∙ c.in-None.ensures.cases.0) (c.loop.invariant made owes)
