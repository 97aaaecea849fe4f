use Rattle.std.proofs.Common.{◌≡◌, ◌<◌, true, length}
use Rattle.esm_eval.specs.Inner.Visit.{Passing}
use Rattle.esm_eval.specs.WalkSteps.{AllEntered, IsSteadyStep, is_entered}
use Rattle.esm_eval.proofs.Inner.Begun.{Going}
use Rattle.esm_eval.proofs.walk.+visit.Given as goal

-- how many modules no evaluation has entered
abbrev pub decreases-visit : goal.decreases-visit
decreases-visit g l = g.D.Desk.left l.desk.now

-- for every walk that the visit is amid: what is passed, and that what is left completes the visit
abbrev pub invariant-loop-i : goal.invariant-loop-i
invariant-loop-i g l = record {
  steady : IsSteadyStep g.D.Desk.lens g.D.Desk.linked g.D.Desk.left l.fn.desk l.desk;
  fewer : g.D.Desk.left l.desk < g.D.Desk.left l.fn.desk;
  long : g.D.Desk.size l.desk ≡ g.D.Desk.size l.fn.desk;
  fits : g.D.Desk.fits l.desk;
  going : Going g.D.Desk.lens l.fn.desk l.x l.desk;
  entered : is_entered g.D.Desk.lens l.desk l.x ≡ true;
  stack : AllEntered g.D.Desk.lens l.desk l.opened;
  count : l.count ≡ length (g.D.Desk.lens.targets l.fn.desk l.x);
  place : l.place ≡ length l.fn.opened;
  passing : Passing g.D.Desk.lens g.D.Desk.linked g.D.Desk.left g.D.Desk.acts l.fn.desk l.fn.opened l.x l.desk l.opened l.i l.low;
}
