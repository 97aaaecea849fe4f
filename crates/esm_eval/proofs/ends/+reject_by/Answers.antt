use Rattle.std.proofs.Common.{◌≡◌, ◌<◌, ◌≤◌, Some, length, ap, sym, ◌∙◌, subst, arith}
use Rattle.std.specs.Prelude.{slice_get}
use Rattle.esm_values.specs.Code.{value_of}
use Rattle.esm_eval.specs.BodyEnd.{Rejects}
use Rattle.esm_eval.specs.Evaluation.{waiters}
use Rattle.esm_eval.proofs.Inner.LateSteps as steps
use Rattle.esm_eval.proofs.Inner.Due as due
use Rattle.esm_eval.proofs.ends.+reject_by.Goals as goal

pub returns-then-is_evaluated-clause-rejects : goal.returns-then-is_evaluated-clause-rejects
returns-then-is_evaluated-clause-rejects g t c = Rejects.over (steps.says c.is_evaluated.result c.is_evaluated.ensures c.if-is_evaluated.true)

pub refuse-requires-clause-unfinished : goal.refuse-requires-clause-unfinished
refuse-requires-clause-unfinished g t c = steps.denies c.is_evaluated.result c.is_evaluated.ensures c.if-is_evaluated.false

pub loop-i-init : goal.loop-i-init
loop-i-init g t c =
    let world = c.in_ok-refuse.ensures.world in
    record {
      fewer = c.in_ok-refuse.ensures.fewer;
      long = c.in_ok-refuse.ensures.size;
      fits = c.in_ok-refuse.ensures.fits;
      stays = c.in_ok-refuse.ensures.stays;
      same = c.in_ok-refuse.ensures.waiters;
      completes = λ after q. steps.given g.D.Late.lens g.D.Late.acts c.args.desk.now c.refuse.new.self after c.args.x (value_of c.args.v.now) (steps.denies c.is_evaluated.result c.is_evaluated.ensures c.if-is_evaluated.false) world q;
    }

pub waiter-y-requires : goal.waiter-y-requires
waiter-y-requires g t c = record {
  linked = c.loop-i.invariant.stays.link c.args.x ∙ c.requires.linked;
  fits = c.loop-i.invariant.fits;
  within = subst (λ n. c.loop-i.i < n) (c.waiter_count-i-end.ensures ∙ ap length (c.in_ok-refuse.ensures.waiters c.args.x ∙ sym (c.loop-i.invariant.same c.args.x))) c.loop-i-test.true;
}

pub loop-i-preserved : goal.loop-i-preserved
loop-i-preserved g t c = record {
  fewer = let a = c.in_ok-reject_by.ensures.fewer in let b = c.loop-i.invariant.fewer in omega arith;
  long = c.in_ok-reject_by.ensures.size ∙ c.loop-i.invariant.long;
  fits = c.in_ok-reject_by.ensures.fits;
  stays = due.stays_on g.D.Late.linked g.D.Late.knows c.args.desk.now c.loop-i.desk c.reject_by.new.desk c.loop-i.invariant.stays c.in_ok-reject_by.ensures.stays;
  same = λ y. c.in_ok-reject_by.ensures.waiters y ∙ c.loop-i.invariant.same y;
  completes = λ after q. c.loop-i.invariant.completes after (steps.one_more g.D.Late.lens g.D.Late.acts c.loop-i.desk c.reject_by.new.desk after (waiters g.D.Late.lens c.args.desk.now c.args.x) c.loop-i.i c.waiter-y.result (value_of c.args.v.now) (subst (λ ws. slice_get ws c.loop-i.i ≡ Some c.waiter-y.result) (c.loop-i.invariant.same c.args.x) c.waiter-y.ensures.at) c.in_ok-reject_by.ensures.rejects q);
}

pub returns-clause-rejects : goal.returns-clause-rejects
returns-clause-rejects g t c =
    let le : length (waiters g.D.Late.lens c.args.desk.now c.args.x) ≤ c.loop-i.i = rw (sym (c.waiter_count-i-end.ensures ∙ ap length (c.in_ok-refuse.ensures.waiters c.args.x))) c.loop-i-test.false in
    c.loop-i.invariant.completes _ (steps.no_more g.D.Late.lens g.D.Late.acts c.loop-i.desk (waiters g.D.Late.lens c.args.desk.now c.args.x) c.loop-i.i (value_of c.args.v.now) le)

pub returns-then-is_evaluated-clause-stays : goal.returns-then-is_evaluated-clause-stays
returns-then-is_evaluated-clause-stays g t c = due.stays_same g.D.Late.linked g.D.Late.knows c.args.desk.now
