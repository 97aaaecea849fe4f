use Rattle.std.proofs.Common.{◌≡◌, ◌<◌, ◌≤◌, Some, Ok, Err, length, drop, slice_get, ap, sym, subst, ◌∙◌, arith}
use Rattle.esm_realm.proofs.Numbers.{has_at}
use Rattle.esm_eval.specs.Calls.{numbered}
use Rattle.esm_eval.specs.Evaluate.{close}
use Rattle.esm_eval.specs.Inner.Visit.{Passing}
use Rattle.esm_eval.specs.WalkSteps.{AllEntered, PassesBy, LeavesBy}
use Rattle.esm_eval.proofs.Inner.Steps as steps
use Rattle.esm_eval.proofs.Inner.Begun as begun
use Rattle.esm_eval.proofs.walk.+visit.Goals as goal

pub returns-then-was_entered-clause-visits : goal.returns-then-was_entered-clause-visits
returns-then-was_entered-clause-visits g t c =
    steps.known_visit g.D.Desk.lens g.D.Desk.linked g.D.Desk.left g.D.Desk.acts c.args.desk.now c.args.opened.now c.args.x c.place_of.result (sym c.was_entered.ensures ∙ c.if-was_entered.true) c.place_of.ensures

pub enter-requires-clause-linked : goal.enter-requires-clause-linked
enter-requires-clause-linked g t c = (steps.standing g.D.Desk.lens g.D.Desk.linked g.D.Desk.left g.D.Desk.acts c.args.desk.now c.requires.within.0 c.args.x c.requires.within.1)

pub loop-i-init : goal.loop-i-init
loop-i-init g t c =
    let o = c.enter.ensures.opens in
    record {
      steady = o.steady;
      fewer = o.fewer;
      long = c.enter.ensures.size;
      fits = c.enter.ensures.fits;
      going = begun.going_enter g.D.Desk.lens g.D.Desk.lawful g.D.Desk.linked g.D.Desk.left c.args.desk.now c.enter.new.self c.args.x c.requires.unbegun (sym c.was_entered.ensures ∙ c.if-was_entered.false) c.enter.ensures.world o;
      entered = steps.opened_now g.D.Desk.lens g.D.Desk.linked g.D.Desk.left g.D.Desk.acts c.args.desk.now c.args.x c.enter.new.self o;
      stack = subst (λ xs. AllEntered g.D.Desk.lens c.enter.new.self xs) (sym c.in-Ok.ensures) (steps.entered_more g.D.Desk.lens g.D.Desk.linked g.D.Desk.left g.D.Desk.acts c.args.desk.now c.args.x c.enter.new.self c.args.opened.now c.requires.stack o);
      count = c.count-count.ensures ∙ ap length (o.steady.same c.args.x (steps.standing g.D.Desk.lens g.D.Desk.linked g.D.Desk.left g.D.Desk.acts c.args.desk.now c.requires.within.0 c.args.x c.requires.within.1));
      place = c.len-place.ensures;
      passing = subst (λ xs. Passing g.D.Desk.lens g.D.Desk.linked g.D.Desk.left g.D.Desk.acts c.args.desk.now c.args.opened.now c.args.x c.enter.new.self xs 0 c.len-place.result) (sym c.in-Ok.ensures)
          (steps.entered g.D.Desk.lens g.D.Desk.linked g.D.Desk.left g.D.Desk.acts c.args.desk.now c.args.opened.now c.args.x (sym c.was_entered.ensures ∙ c.if-was_entered.false) c.enter.new.self c.len-place.result c.enter.ensures.world o c.len-place.ensures);
    }

pub count-count-requires : goal.count-count-requires
count-count-requires g t c = c.enter.ensures.opens.steady.grows c.args.x (steps.standing g.D.Desk.lens g.D.Desk.linked g.D.Desk.left g.D.Desk.acts c.args.desk.now c.requires.within.0 c.args.x c.requires.within.1)

pub target-t-requires : goal.target-t-requires
target-t-requires g t c = record {
  linked = c.loop-i.invariant.steady.grows c.args.x (steps.standing g.D.Desk.lens g.D.Desk.linked g.D.Desk.left g.D.Desk.acts c.args.desk.now c.requires.within.0 c.args.x c.requires.within.1);
  within = subst (λ n. c.loop-i.i < n) (c.loop-i.invariant.count ∙ ap length (sym (c.loop-i.invariant.steady.same c.args.x (steps.standing g.D.Desk.lens g.D.Desk.linked g.D.Desk.left g.D.Desk.acts c.args.desk.now c.requires.within.0 c.args.x c.requires.within.1)))) c.loop-i-test.true;
}

pub visit-requires : goal.visit-requires
visit-requires g t c κs within =
    let i = steps.within_on g.D.Desk.lens g.D.Desk.linked g.D.Desk.left g.D.Desk.acts c.args.desk.now c.loop-i.desk c.requires.within.0 c.args.x c.target-t.result c.requires.within.1 c.loop-i.invariant.steady
    (has_at (g.D.Desk.lens.targets c.args.desk.now c.args.x) c.loop-i.i c.target-t.result (subst (λ ts. slice_get ts c.loop-i.i ≡ Some c.target-t.result) (c.loop-i.invariant.steady.same c.args.x (steps.standing g.D.Desk.lens g.D.Desk.linked g.D.Desk.left g.D.Desk.acts c.args.desk.now c.requires.within.0 c.args.x c.requires.within.1)) c.target-t.ensures)) in
    (let less = c.loop-i.invariant.fewer in omega (arith, c.decreases), (within.0, (within.1, ((c.requires.within.0, i), (c.loop-i.invariant.stack, (c.loop-i.invariant.going.unbegun, c.loop-i.invariant.fits))))))

pub returns-in-Err-visit-clause-visits : goal.returns-in-Err-visit-clause-visits
returns-in-Err-visit-clause-visits g t c =
    steps.cut g.D.Desk.lens g.D.Desk.linked g.D.Desk.left g.D.Desk.acts c.args.desk.now c.args.opened.now c.args.x (sym c.was_entered.ensures ∙ c.if-was_entered.false) c.loop-i.desk c.loop-i.opened c.loop-i.i c.loop-i.low c.loop-i.invariant.passing c.target-t.result (subst (λ ts. slice_get ts c.loop-i.i ≡ Some c.target-t.result) (c.loop-i.invariant.steady.same c.args.x (steps.standing g.D.Desk.lens g.D.Desk.linked g.D.Desk.left g.D.Desk.acts c.args.desk.now c.requires.within.0 c.args.x c.requires.within.1)) c.target-t.ensures) c.in-Err-visit.cut c.visit.new.desk c.visit.new.opened c.in-Err-visit.ensures.visits

pub pass-requires : goal.pass-requires
pass-requires g t c = record {
  entered = c.in-Ok-visit.ensures.steady.stays c.args.x c.loop-i.invariant.entered;
  fits = c.in-Ok-visit.ensures.fits;
  stack = (subst (λ xs. AllEntered g.D.Desk.lens c.visit.new.desk xs) (sym c.as_slice.ensures) c.in-Ok-visit.ensures.stack);
}

pub returns-in-Err-pass-clause-visits : goal.returns-in-Err-pass-clause-visits
returns-in-Err-pass-clause-visits g t c =
    steps.pass_cut g.D.Desk.lens g.D.Desk.linked g.D.Desk.left g.D.Desk.acts c.args.desk.now c.args.opened.now c.args.x (sym c.was_entered.ensures ∙ c.if-was_entered.false) c.loop-i.desk c.loop-i.opened c.loop-i.i c.loop-i.low c.loop-i.invariant.passing c.target-t.result (subst (λ ts. slice_get ts c.loop-i.i ≡ Some c.target-t.result) (c.loop-i.invariant.steady.same c.args.x (steps.standing g.D.Desk.lens g.D.Desk.linked g.D.Desk.left g.D.Desk.acts c.args.desk.now c.requires.within.0 c.args.x c.requires.within.1)) c.target-t.ensures) c.in-Ok-visit.found c.visit.new.desk c.visit.new.opened c.in-Ok-visit.ensures.visits c.in-Err-pass.cut c.pass.new.self
    (subst (λ xs. PassesBy g.D.Desk.lens g.D.Desk.linked g.D.Desk.left g.D.Desk.acts c.visit.new.desk xs c.args.x c.target-t.result (Err c.in-Err-pass.cut) c.pass.new.self) c.as_slice.ensures c.in-Err-pass.ensures.passes)

pub loop-i-preserved : goal.loop-i-preserved
loop-i-preserved g t c =
    let done : PassesBy g.D.Desk.lens g.D.Desk.linked g.D.Desk.left g.D.Desk.acts c.visit.new.desk c.visit.new.opened c.args.x c.target-t.result (Ok tt) c.pass.new.self = subst (λ xs. PassesBy g.D.Desk.lens g.D.Desk.linked g.D.Desk.left g.D.Desk.acts c.visit.new.desk xs c.args.x c.target-t.result (Ok tt) c.pass.new.self) c.as_slice.ensures c.in-Ok-pass.ensures.passes in
    let keeps = done.2 in
    let to_here = steps.same_on g.D.Desk.lens g.D.Desk.linked g.D.Desk.left g.D.Desk.acts c.args.desk.now c.loop-i.desk c.visit.new.desk c.loop-i.invariant.steady c.in-Ok-visit.ensures.steady in
    record {
      steady = steps.same_on g.D.Desk.lens g.D.Desk.linked g.D.Desk.left g.D.Desk.acts c.args.desk.now c.visit.new.desk c.pass.new.self to_here keeps.steady;
      fewer = let a = c.loop-i.invariant.fewer in let b = c.in-Ok-visit.ensures.steady.less in let d = keeps.steady.less in omega arith;
      long = c.in-Ok-pass.ensures.size ∙ (c.in-Ok-visit.ensures.size ∙ c.loop-i.invariant.long);
      fits = c.in-Ok-pass.ensures.fits;
      going = begun.going_pass g.D.Desk.lens g.D.Desk.lawful g.D.Desk.linked g.D.Desk.left c.args.desk.now c.visit.new.desk c.pass.new.self c.args.x c.target-t.result (begun.going_visit g.D.Desk.lens c.args.desk.now c.loop-i.desk c.visit.new.desk c.args.x c.loop-i.invariant.going c.loop-i.invariant.entered c.loop-i.invariant.steady.stays c.in-Ok-visit.ensures.begins) done.1 keeps;
      entered = keeps.steady.stays c.args.x (c.in-Ok-visit.ensures.steady.stays c.args.x c.loop-i.invariant.entered);
      stack = steps.entered_on g.D.Desk.lens g.D.Desk.linked g.D.Desk.left g.D.Desk.acts c.visit.new.desk c.pass.new.self c.visit.new.opened c.in-Ok-visit.ensures.stack keeps;
      count = c.loop-i.invariant.count;
      place = c.loop-i.invariant.place;
      passing = steps.passed g.D.Desk.lens g.D.Desk.linked g.D.Desk.left g.D.Desk.acts c.args.desk.now c.args.opened.now c.args.x (sym c.was_entered.ensures ∙ c.if-was_entered.false) c.loop-i.desk c.loop-i.opened c.loop-i.i c.loop-i.low c.loop-i.invariant.passing c.target-t.result (subst (λ ts. slice_get ts c.loop-i.i ≡ Some c.target-t.result) (c.loop-i.invariant.steady.same c.args.x (steps.standing g.D.Desk.lens g.D.Desk.linked g.D.Desk.left g.D.Desk.acts c.args.desk.now c.requires.within.0 c.args.x c.requires.within.1)) c.target-t.ensures) c.in-Ok-visit.found c.visit.new.desk c.visit.new.opened c.in-Ok-visit.ensures.visits c.lesser-low.result c.pass.new.self c.lesser-low.ensures done.0 done.1 keeps;
    }

pub leave-requires : goal.leave-requires
leave-requires g t c = record {
  linked = c.loop-i.invariant.steady.grows c.args.x (steps.standing g.D.Desk.lens g.D.Desk.linked g.D.Desk.left g.D.Desk.acts c.args.desk.now c.requires.within.0 c.args.x c.requires.within.1);
  entered = c.loop-i.invariant.entered;
  unbegun = c.loop-i.invariant.going.own;
  fits = c.loop-i.invariant.fits;
  stack = (subst (λ xs. AllEntered g.D.Desk.lens c.loop-i.desk xs) (sym c.as_slice-2.ensures) c.loop-i.invariant.stack);
}

pub returns-in-Err-leave-clause-visits : goal.returns-in-Err-leave-clause-visits
returns-in-Err-leave-clause-visits g t c =
    steps.leave_cut g.D.Desk.lens g.D.Desk.linked g.D.Desk.left g.D.Desk.acts c.args.desk.now c.args.opened.now c.args.x (sym c.was_entered.ensures ∙ c.if-was_entered.false) c.loop-i.desk c.loop-i.opened c.loop-i.i c.loop-i.low c.loop-i.invariant.passing (subst (λ n. n ≤ c.loop-i.i) c.loop-i.invariant.count c.loop-i-test.false) c.in-Err-leave.cut c.leave.new.self
    (subst (λ xs. LeavesBy g.D.Desk.lens g.D.Desk.linked g.D.Desk.left g.D.Desk.acts c.loop-i.desk xs c.args.x (Err c.in-Err-leave.cut) c.leave.new.self) c.as_slice-2.ensures c.in-Err-leave.ensures.leaves)

pub returns-then-low-place-clause-steady : goal.returns-then-low-place-clause-steady
returns-then-low-place-clause-steady g t c =
    let left : LeavesBy g.D.Desk.lens g.D.Desk.linked g.D.Desk.left g.D.Desk.acts c.loop-i.desk c.loop-i.opened c.args.x (Ok tt) c.leave.new.self = subst (λ xs. LeavesBy g.D.Desk.lens g.D.Desk.linked g.D.Desk.left g.D.Desk.acts c.loop-i.desk xs c.args.x (Ok tt) c.leave.new.self) c.as_slice-2.ensures c.in-Ok-leave.ensures.leaves in
    steps.same_on g.D.Desk.lens g.D.Desk.linked g.D.Desk.left g.D.Desk.acts c.args.desk.now c.loop-i.desk c.leave.new.self c.loop-i.invariant.steady left.1.steady

pub returns-then-low-place-clause-stack : goal.returns-then-low-place-clause-stack
returns-then-low-place-clause-stack g t c =
    let left : LeavesBy g.D.Desk.lens g.D.Desk.linked g.D.Desk.left g.D.Desk.acts c.loop-i.desk c.loop-i.opened c.args.x (Ok tt) c.leave.new.self = subst (λ xs. LeavesBy g.D.Desk.lens g.D.Desk.linked g.D.Desk.left g.D.Desk.acts c.loop-i.desk xs c.args.x (Ok tt) c.leave.new.self) c.as_slice-2.ensures c.in-Ok-leave.ensures.leaves in
    steps.entered_on g.D.Desk.lens g.D.Desk.linked g.D.Desk.left g.D.Desk.acts c.loop-i.desk c.leave.new.self c.loop-i.opened c.loop-i.invariant.stack left.1

pub returns-then-low-place-clause-visits : goal.returns-then-low-place-clause-visits
returns-then-low-place-clause-visits g t c =
    let left : LeavesBy g.D.Desk.lens g.D.Desk.linked g.D.Desk.left g.D.Desk.acts c.loop-i.desk c.loop-i.opened c.args.x (Ok tt) c.leave.new.self = subst (λ xs. LeavesBy g.D.Desk.lens g.D.Desk.linked g.D.Desk.left g.D.Desk.acts c.loop-i.desk xs c.args.x (Ok tt) c.leave.new.self) c.as_slice-2.ensures c.in-Ok-leave.ensures.leaves in
    steps.stays g.D.Desk.lens g.D.Desk.linked g.D.Desk.left g.D.Desk.acts c.args.desk.now c.args.opened.now c.args.x (sym c.was_entered.ensures ∙ c.if-was_entered.false) c.loop-i.desk c.loop-i.opened c.loop-i.i c.loop-i.low c.loop-i.invariant.passing (subst (λ n. n ≤ c.loop-i.i) c.loop-i.invariant.count c.loop-i-test.false) c.leave.new.self left.0 left.1 (subst (λ n. c.loop-i.low < n) c.loop-i.invariant.place c.if-low-place.true)

pub close-requires : goal.close-requires
close-requires g t c =
    let left : LeavesBy g.D.Desk.lens g.D.Desk.linked g.D.Desk.left g.D.Desk.acts c.loop-i.desk c.loop-i.opened c.args.x (Ok tt) c.leave.new.self = subst (λ xs. LeavesBy g.D.Desk.lens g.D.Desk.linked g.D.Desk.left g.D.Desk.acts c.loop-i.desk xs c.args.x (Ok tt) c.leave.new.self) c.as_slice-2.ensures c.in-Ok-leave.ensures.leaves in
    record { entered = left.1.phases c.args.x ∙ c.loop-i.invariant.entered; fits = c.in-Ok-leave.ensures.fits; stack = (subst (λ xs. AllEntered g.D.Desk.lens c.leave.new.self xs) (sym c.as_slice-3.ensures) (steps.entered_on g.D.Desk.lens g.D.Desk.linked g.D.Desk.left g.D.Desk.acts c.loop-i.desk c.leave.new.self c.loop-i.opened c.loop-i.invariant.stack left.1)) }

pub returns-clause-steady : goal.returns-clause-steady
returns-clause-steady g t c =
    let left : LeavesBy g.D.Desk.lens g.D.Desk.linked g.D.Desk.left g.D.Desk.acts c.loop-i.desk c.loop-i.opened c.args.x (Ok tt) c.leave.new.self = subst (λ xs. LeavesBy g.D.Desk.lens g.D.Desk.linked g.D.Desk.left g.D.Desk.acts c.loop-i.desk xs c.args.x (Ok tt) c.leave.new.self) c.as_slice-2.ensures c.in-Ok-leave.ensures.leaves in
    steps.same_on g.D.Desk.lens g.D.Desk.linked g.D.Desk.left g.D.Desk.acts c.args.desk.now c.leave.new.self c.close.new.self (steps.same_on g.D.Desk.lens g.D.Desk.linked g.D.Desk.left g.D.Desk.acts c.args.desk.now c.loop-i.desk c.leave.new.self c.loop-i.invariant.steady left.1.steady) c.close.ensures.keeps.steady

pub returns-clause-stack : goal.returns-clause-stack
returns-clause-stack g t c =
    let left : LeavesBy g.D.Desk.lens g.D.Desk.linked g.D.Desk.left g.D.Desk.acts c.loop-i.desk c.loop-i.opened c.args.x (Ok tt) c.leave.new.self = subst (λ xs. LeavesBy g.D.Desk.lens g.D.Desk.linked g.D.Desk.left g.D.Desk.acts c.loop-i.desk xs c.args.x (Ok tt) c.leave.new.self) c.as_slice-2.ensures c.in-Ok-leave.ensures.leaves in
    subst (λ xs. AllEntered g.D.Desk.lens c.close.new.self xs) (sym c.truncate.ensures)
    (steps.entered_front g.D.Desk.lens g.D.Desk.linked g.D.Desk.left g.D.Desk.acts c.close.new.self c.len-place.result c.loop-i.opened
    (steps.entered_on g.D.Desk.lens g.D.Desk.linked g.D.Desk.left g.D.Desk.acts c.leave.new.self c.close.new.self c.loop-i.opened (steps.entered_on g.D.Desk.lens g.D.Desk.linked g.D.Desk.left g.D.Desk.acts c.loop-i.desk c.leave.new.self c.loop-i.opened c.loop-i.invariant.stack left.1) c.close.ensures.keeps))

pub returns-clause-visits : goal.returns-clause-visits
returns-clause-visits g t c =
    let left : LeavesBy g.D.Desk.lens g.D.Desk.linked g.D.Desk.left g.D.Desk.acts c.loop-i.desk c.loop-i.opened c.args.x (Ok tt) c.leave.new.self = subst (λ xs. LeavesBy g.D.Desk.lens g.D.Desk.linked g.D.Desk.left g.D.Desk.acts c.loop-i.desk xs c.args.x (Ok tt) c.leave.new.self) c.as_slice-2.ensures c.in-Ok-leave.ensures.leaves in
    steps.closes_all g.D.Desk.lens g.D.Desk.linked g.D.Desk.left g.D.Desk.acts c.args.desk.now c.args.opened.now c.args.x (sym c.was_entered.ensures ∙ c.if-was_entered.false) c.loop-i.desk c.loop-i.opened c.loop-i.i c.loop-i.low c.loop-i.invariant.passing (subst (λ n. n ≤ c.loop-i.i) c.loop-i.invariant.count c.loop-i-test.false) c.leave.new.self left.0 left.1 c.close.new.self c.truncate.new.self c.len-place.result c.loop-i.invariant.place
    (c.close.ensures.world ∙ ap (λ o. close (numbered g.D.Desk.lens) c.leave.new.self c.args.x (drop c.len-place.result o)) c.as_slice-3.ensures)
    (λ k. c.close.ensures.keeps) c.truncate.ensures (subst (λ n. n ≤ c.loop-i.low) c.loop-i.invariant.place c.if-low-place.false)

pub returns-then-was_entered-clause-begins : goal.returns-then-was_entered-clause-begins
returns-then-was_entered-clause-begins g t c = begun.begins_none g.D.Desk.lens c.args.desk.now c.requires.unbegun

pub returns-then-low-place-clause-begins : goal.returns-then-low-place-clause-begins
returns-then-low-place-clause-begins g t c =
    let left : LeavesBy g.D.Desk.lens g.D.Desk.linked g.D.Desk.left g.D.Desk.acts c.loop-i.desk c.loop-i.opened c.args.x (Ok tt) c.leave.new.self = subst (λ xs. LeavesBy g.D.Desk.lens g.D.Desk.linked g.D.Desk.left g.D.Desk.acts c.loop-i.desk xs c.args.x (Ok tt) c.leave.new.self) c.as_slice-2.ensures c.in-Ok-leave.ensures.leaves in
    begun.begins_leave g.D.Desk.lens g.D.Desk.acts g.D.Desk.lawful g.D.Desk.steady g.D.Desk.begins_one g.D.Desk.linked g.D.Desk.left c.args.desk.now c.loop-i.desk c.leave.new.self c.args.x c.loop-i.invariant.going left.0 left.1 (sym c.was_entered.ensures ∙ c.if-was_entered.false) c.loop-i.invariant.entered

pub returns-clause-begins : goal.returns-clause-begins
returns-clause-begins g t c =
    let left : LeavesBy g.D.Desk.lens g.D.Desk.linked g.D.Desk.left g.D.Desk.acts c.loop-i.desk c.loop-i.opened c.args.x (Ok tt) c.leave.new.self = subst (λ xs. LeavesBy g.D.Desk.lens g.D.Desk.linked g.D.Desk.left g.D.Desk.acts c.loop-i.desk xs c.args.x (Ok tt) c.leave.new.self) c.as_slice-2.ensures c.in-Ok-leave.ensures.leaves in
    begun.begins_close g.D.Desk.lens g.D.Desk.lawful g.D.Desk.linked g.D.Desk.left c.args.desk.now c.leave.new.self c.close.new.self c.args.x (drop c.len-place.result c.loop-i.opened) (begun.begins_leave g.D.Desk.lens g.D.Desk.acts g.D.Desk.lawful g.D.Desk.steady g.D.Desk.begins_one g.D.Desk.linked g.D.Desk.left c.args.desk.now c.loop-i.desk c.leave.new.self c.args.x c.loop-i.invariant.going left.0 left.1 (sym c.was_entered.ensures ∙ c.if-was_entered.false) c.loop-i.invariant.entered) (c.close.ensures.world ∙ ap (λ o. close (numbered g.D.Desk.lens) c.leave.new.self c.args.x (drop c.len-place.result o)) c.as_slice-3.ensures) c.close.ensures.keeps

pub returns-in-Err-visit-clause-size : goal.returns-in-Err-visit-clause-size
returns-in-Err-visit-clause-size g t c = c.in-Err-visit.ensures.size ∙ c.loop-i.invariant.long

pub returns-in-Err-pass-clause-size : goal.returns-in-Err-pass-clause-size
returns-in-Err-pass-clause-size g t c = c.in-Err-pass.ensures.size ∙ (c.in-Ok-visit.ensures.size ∙ c.loop-i.invariant.long)

pub returns-in-Err-leave-clause-size : goal.returns-in-Err-leave-clause-size
returns-in-Err-leave-clause-size g t c = c.in-Err-leave.ensures.size ∙ c.loop-i.invariant.long

pub returns-then-low-place-clause-size : goal.returns-then-low-place-clause-size
returns-then-low-place-clause-size g t c = c.in-Ok-leave.ensures.size ∙ c.loop-i.invariant.long

pub returns-clause-size : goal.returns-clause-size
returns-clause-size g t c = c.close.ensures.size ∙ (c.in-Ok-leave.ensures.size ∙ c.loop-i.invariant.long)
