use Rattle.esm_rows.specs.Making.{compare_tasks}
use Rattle.esm_rows.proofs.Pushed.{goes, ends}
use Rattle.esm_rows.proofs.tasks.push_compared.Goals as goal

pub loop-part-preserved : goal.loop-part-preserved
loop-part-preserved c = rw c.in_ok-push_both.ensures (goes compare_tasks c.args.parts.now c.loop-part.part-index _ _ _ c.loop-part-test.true c.loop-part.invariant)

pub returns : goal.returns
returns c = ends compare_tasks c.args.parts.now c.loop-part.part-index _ _ c.loop-part-test.false c.loop-part.invariant
