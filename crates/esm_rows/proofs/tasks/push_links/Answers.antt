use Rattle.std.proofs.Common.{refl}
use Rattle.esm_rows.proofs.Linked.{goes, ends}
use Rattle.esm_rows.proofs.tasks.push_links.Goals as goal

pub loop-at-init : goal.loop-at-init
loop-at-init c = refl

pub loop-at-preserved : goal.loop-at-preserved
loop-at-preserved c = rw c.in_ok-push_link.ensures (goes c.args.id c.args.links.now c.loop-at.at c.index-links-at.result _ _ c.index-links-at.is c.loop-at-test.true c.loop-at.invariant)

pub returns : goal.returns
returns c = ends c.args.id c.args.links.now c.loop-at.at _ _ c.loop-at-test.false c.loop-at.invariant
