use Rattle.std.proofs.Common.{refl, sym, ◌∙◌}
use Rattle.esm_rows.specs.Locals.{names_of}
use Rattle.esm_rows.proofs.Steps.{done}
use Rattle.esm_rows.proofs.exprs.put_expr.Goals as goal

pub loop-init : goal.loop-init
loop-init c = λ row told. rw (c.in_ok-push_task.ensures, c.new-tasks.ensures.items) (record { row = row; told = told; makes = refl; plain_tasks = (tt, tt) })

pub loop-preserved : goal.loop-preserved
loop-preserved c = λ row told. c.in_ok-do_task-in-Some.ensures _ (rw c.in-Some.ensures.items at (c.loop.invariant row told))

pub returns-in-None : goal.returns-in-None
returns-in-None c = λ row told. done (names_of c.args.blocks.now) c.args.tree.now.exprs c.loop.tasks.items _ _ _ (sym c.loop.tasks.ok.0 ∙ c.in-None.ensures.cases.0) (c.loop.invariant row told)
