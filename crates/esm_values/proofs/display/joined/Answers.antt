use Rattle.std.proofs.Common.{◌++◌, ap}
use Rattle.esm_values.proofs.Joined.{joined_left, left_end, goes}
use Rattle.esm_values.proofs.display.joined.Goals as goal

pub loop-part-init : goal.loop-part-init
loop-part-init c = rw c.in_ok-text.ensures.ok (ap (λ r. c.args.begin.now ++ r) (joined_left c.args.sign.now c.args.texts.now))

pub loop-part-preserved : goal.loop-part-preserved
loop-part-preserved c = rw (c.in_ok-push_str.ensures.bytes, c.as_str.ensures.value, c.in_ok-push_sign.ensures, c.part-item.is) (goes c.args.sign.now _ c.loop-part.first c.args.texts.now c.loop-part.part-index _ _ c.loop-part-test.true c.loop-part.invariant)

pub returns : goal.returns
returns c = left_end c.args.sign.now _ c.loop-part.first c.args.texts.now c.loop-part.part-index _ c.loop-part-test.false c.loop-part.invariant
