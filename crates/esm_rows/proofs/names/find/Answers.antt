use Rattle.std.proofs.Common.{refl}
use Rattle.esm_rows.specs.Rows.{found_in}
use Rattle.esm_rows.proofs.Found.{begins, looks, looked, found_more}
use Rattle.esm_rows.proofs.names.find.Goals as goal

pub loop-at-init : goal.loop-at-init
loop-at-init c = begins c.args.blocks.now (λ ns. found_in ns c.args.name.now) refl

pub loop-at-preserved : goal.loop-at-preserved
loop-at-preserved c =
    let f = c.loop-at.invariant in
    let here = c.in_ok-here.ensures in
    let after = rw c.len.ensures at c.in_ok-before.ensures in
    looks c.args.blocks.now (λ ns. found_in ns c.args.name.now) c.loop-at.at c.index-blocks-at.result c.loop-at.found c.first_of-found.result c.loop-at.before _ c.loop-at-test.true f c.index-blocks-at.is (found_more c.args.name.now c.index-blocks-at.result f.names c.in_ok-here.here c.loop-at.found c.first_of-found.result c.loop-at.before f.counts f.told here c.first_of-found.ensures) after

pub returns : goal.returns
returns c = looked c.args.blocks.now (λ ns. found_in ns c.args.name.now) c.loop-at.at c.loop-at.found c.loop-at.before c.loop-at-test.false c.loop-at.invariant
