use Rattle.std.proofs.Common.{◌≡◌, drop}
use Rattle.esm_eval.specs.Calls.{numbered}
use Rattle.esm_eval.specs.BodyEnd.{Fulfills, GoOn}
use Rattle.esm_eval.proofs.Inner.Due.{AreDue}
use Rattle.esm_eval.proofs.ends.fulfill_ready.Given as goal

-- what is left to go on completes what the end of the body does
abbrev pub invariant-loop-i : goal.invariant-loop-i
invariant-loop-i g l = record {
  fits : g.D.Late.fits l.desk;
  long : g.D.Late.size l.desk ≡ g.D.Late.size l.fn.desk;
  due : AreDue g.D.Late.lens g.D.Late.linked l.desk (drop l.i l.order.items);
  completes : (end : _) (after : _) → GoOn (numbered g.D.Late.lens) g.D.Late.acts l.desk (drop l.i l.order.items) end after → Fulfills (numbered g.D.Late.lens) g.D.Late.acts l.fn.desk l.m end after;
}
