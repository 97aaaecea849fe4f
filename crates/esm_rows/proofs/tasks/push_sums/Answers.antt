use Rattle.esm_rows.specs.Making.{sum_tasks}
use Rattle.esm_rows.proofs.Pushed.{goes, ends}
use Rattle.esm_rows.proofs.tasks.push_sums.Goals as goal

pub loop-id-preserved : goal.loop-id-preserved
loop-id-preserved c = rw c.in_ok-push_both.ensures (goes sum_tasks c.args.ids.now c.loop-id.id-index _ _ _ c.loop-id-test.true c.loop-id.invariant)

pub returns : goal.returns
returns c = ends sum_tasks c.args.ids.now c.loop-id.id-index _ _ c.loop-id-test.false c.loop-id.invariant
