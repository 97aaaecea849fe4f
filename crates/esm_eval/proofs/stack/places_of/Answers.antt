-- One more module has its place.
use Rattle.std.proofs.Common.{subst, sym, take}
use Rattle.std.specs.Prelude.{slice_index_or}
use Rattle.esm_eval.specs.Inner.Stack.{HavePlaces}
use Rattle.esm_eval.proofs.Inner.Stacks as stacks
use Rattle.esm_eval.proofs.stack.places_of.Goals as goal

pub loop-i-preserved : goal.loop-i-preserved
loop-i-preserved c =
    let xs = c.args.opened.now in
    let i = c.loop-i.i in
    let x = slice_index_or xs i 0 in
    let at = stacks.get_at xs i 0 c.loop-i-test.true in
    subst (λ ys. HavePlaces ys c.note.new.places.items) (sym (stacks.take_next xs i x at))
    (c.in_ok-note.ensures (take i xs) c.loop-i.invariant (stacks.first_is xs c.requires i x at) (stacks.take_count xs i c.loop-i-test.true))
