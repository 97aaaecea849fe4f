use Rattle.std.proofs.Common.{length}
use Rattle.esm_values.specs.Plans.{Follows as follows}
use Rattle.esm_expr_eval.proofs.Joins.{lt_true, lt_false}
use Rattle.esm_expr_eval.proofs.sums.make.Goals as goal

pub returns-then-len-gt-MAX_TEXT_BYTES : goal.returns-then-len-gt-MAX_TEXT_BYTES
returns-then-len-gt-MAX_TEXT_BYTES g c = rw (lt_true 65536 (length c.args.text) (rw c.as_str-len.ensures at c.if-len-gt-MAX_TEXT_BYTES.true)) c.throws.ensures

pub returns-in-Ok : goal.returns-in-Ok
returns-in-Ok g c = λ rest. rw (lt_false 65536 (length c.args.text) (rw c.as_str-len.ensures at c.if-len-gt-MAX_TEXT_BYTES.false)) (follows.asks tt (rw c.as_str-len.ensures at c.in-Ok.ensures) follows.ends)

pub returns-in-Err : goal.returns-in-Err
returns-in-Err g c = λ rest. rw (lt_false 65536 (length c.args.text) (rw c.as_str-len.ensures at c.if-len-gt-MAX_TEXT_BYTES.false)) (follows.stops (rw c.as_str-len.ensures at c.in-Err.ensures))
