-- The module stands here, or nowhere.
use Rattle.std.proofs.Common.{arith, length, ap, ◌∙◌}
use Rattle.std.specs.Prelude.{slice_index_or, Some}
use Rattle.esm_eval.proofs.Inner.Stacks.{get_at, get_within, first_at, none_before, nowhere}
use Rattle.esm_eval.proofs.stack.scan.Goals as goal

pub returns-then-opened-i : goal.returns-then-opened-i
returns-then-opened-i c =
    let xs = c.args.opened.now in
    let i = c.loop-i.i in
    first_at xs c.args.x i (get_at xs i 0 c.loop-i-test.true ∙ ap Some c.if-opened-i.true) c.loop-i.invariant

pub loop-i-preserved : goal.loop-i-preserved
loop-i-preserved c =
    let xs = c.args.opened.now in
    let i = c.loop-i.i in
    none_before xs c.args.x (slice_index_or xs i 0) i c.loop-i.invariant (get_at xs i 0 c.loop-i-test.true) c.if-opened-i.false

pub returns : goal.returns
returns c =
    let xs = c.args.opened.now in
    nowhere xs c.args.x (length xs) (omega arith) (λ j at. let l = get_within xs j c.args.x at in c.loop-i.invariant j (omega (arith, l, c.loop-i.auto.i-end, c.loop-i-test.false)) at)
