use Rattle.esm_rows.specs.Working.{statement_works}
use Rattle.esm_rows.proofs.Pushed.{goes, ends}
use Rattle.esm_rows.proofs.works.push_statements.Goals as goal

pub loop-id-preserved : goal.loop-id-preserved
loop-id-preserved c = rw c.in_ok-push_work.ensures (goes statement_works c.args.ids.now c.loop-id.id-index _ _ _ c.loop-id-test.true c.loop-id.invariant)

pub returns : goal.returns
returns c = ends statement_works c.args.ids.now c.loop-id.id-index _ _ c.loop-id-test.false c.loop-id.invariant
