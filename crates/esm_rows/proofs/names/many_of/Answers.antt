use Rattle.std.proofs.Common.{refl}
use Rattle.std.specs.Prelude.{None}
use Rattle.esm_rows.proofs.Found.{begins, looks, counts_all}
use Rattle.esm_rows.proofs.names.many_of.Goals as goal

pub loop-at-init : goal.loop-at-init
loop-at-init c = begins c.args.blocks.now (λ ns. None) refl

pub loop-at-preserved : goal.loop-at-preserved
loop-at-preserved c =
    let after = rw c.len.ensures at c.in_ok-many.ensures in
    looks c.args.blocks.now (λ ns. None) c.loop-at.at c.index-blocks-at.result None None c.loop-at.many _ c.loop-at-test.true c.loop-at.invariant c.index-blocks-at.is refl after

pub returns : goal.returns
returns c = counts_all c.args.blocks.now (λ ns. None) c.loop-at.at None c.loop-at.many c.loop-at-test.false c.loop-at.invariant
