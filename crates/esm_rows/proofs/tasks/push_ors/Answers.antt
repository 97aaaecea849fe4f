use Rattle.esm_rows.specs.Making.{or_tasks}
use Rattle.esm_rows.proofs.Pushed.{goes, ends}
use Rattle.esm_rows.proofs.tasks.push_ors.Goals as goal

pub loop-id-preserved : goal.loop-id-preserved
loop-id-preserved c = rw c.in_ok-push_both.ensures (goes (or_tasks c.args.left) c.args.ids.now c.loop-id.id-index _ _ _ c.loop-id-test.true c.loop-id.invariant)

pub returns : goal.returns
returns c = ends (or_tasks c.args.left) c.args.ids.now c.loop-id.id-index _ _ c.loop-id-test.false c.loop-id.invariant
