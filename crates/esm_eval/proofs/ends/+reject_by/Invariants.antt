use Rattle.std.proofs.Common.{◌≡◌, ◌<◌, drop}
use Rattle.esm_values.specs.Code.{value_of}
use Rattle.esm_eval.specs.Calls.{numbered}
use Rattle.esm_eval.specs.Evaluation.{waiters}
use Rattle.esm_eval.specs.BodyEnd.{Rejects, RejectsAll}
use Rattle.esm_eval.specs.EndSteps.{SameWaiters, Stays}
use Rattle.esm_eval.proofs.ends.+reject_by.Given as goal

-- how many modules aren't evaluated
abbrev pub decreases-reject_by : goal.decreases-reject_by
decreases-reject_by g l = g.D.Late.unfinished l.desk.now

abbrev pub invariant-loop-i : goal.invariant-loop-i
invariant-loop-i g l = record {
  fewer : g.D.Late.unfinished l.desk < g.D.Late.unfinished l.fn.desk;
  long : g.D.Late.size l.desk ≡ g.D.Late.size l.fn.desk;
  fits : g.D.Late.fits l.desk;
  stays : Stays g.D.Late.linked g.D.Late.knows l.fn.desk l.desk;
  same : SameWaiters g.D.Late.lens l.fn.desk l.desk;
  completes : (after : _) → RejectsAll (numbered g.D.Late.lens) l.desk (drop l.i (waiters g.D.Late.lens l.fn.desk l.x)) (value_of l.v) after → Rejects (numbered g.D.Late.lens) l.fn.desk l.x (value_of l.v) after;
}
