-- A rejected dependency of two modules, state by state.
use Rattle.std.proofs.Common.{true, false, [], ◌∷◌, Some, None, refl}
use Rattle.esm_realm.specs.Walk.Mark.{Enter, Pass, Leave}
use Rattle.esm_realm.specs.Walk.Visits.{known, fresh}
use Rattle.esm_realm.specs.Walk.Passes.{all, next}
use Rattle.esm_eval.specs.Nodes.{NotEntered, Evaluating, EvaluatingAsync, Evaluated, untouched}
use Rattle.esm_eval.specs.Evaluate.{Ends, Leaves, ExecutesAsync, Marks, EvaluatesRoot}
use Rattle.esm_eval.specs.Evaluate.Marks.{done, enters, passes, component}
use Rattle.esm_eval.specs.BodyEnd.{Rejects, RejectsAll}
use Rattle.esm_eval.specs.SmallWorld.{A, B, C, D, Small, small, Writes, all_run, only, Pending, Rejected}
use Rattle.esm_eval.specs.Examples.{diamond, SharedRejection}
use Rattle.esm_eval.proofs.runs.States.{nd, at, async, nothing_begun}

abbrev shared0 : Small
shared0 = at (nd NotEntered None None (Some 0) false [] []) (untouched) (untouched) (untouched) [] (Pending ∷ []) [] []

abbrev shared1 : Small
shared1 = at (nd Evaluating None None (Some 0) false [] []) (untouched) (untouched) (untouched) [] (Pending ∷ []) [] []

abbrev shared2 : Small
shared2 = at (nd Evaluating None None (Some 0) false [] []) (nd Evaluating None None None false [] []) (untouched) (untouched) [] (Pending ∷ []) [] []

abbrev shared3 : Small
shared3 = at (nd Evaluating None None (Some 0) false [] []) (nd Evaluating None None None false [] []) (untouched) (nd Evaluating None None None false [] []) [] (Pending ∷ []) [] []

abbrev shared4 : Small
shared4 = at (nd Evaluating None None (Some 0) false [] []) (nd Evaluating None None None false [] []) (untouched) (nd EvaluatingAsync None (Some D) None false [] []) (D ∷ []) (Pending ∷ Pending ∷ []) [] (D ∷ [])

abbrev shared5 : Small
shared5 = at (nd Evaluating None None (Some 0) false [] []) (nd Evaluating None None None false (D ∷ []) []) (untouched) (nd EvaluatingAsync None (Some D) None false [] (B ∷ [])) (D ∷ []) (Pending ∷ Pending ∷ []) [] (D ∷ [])

abbrev shared6 : Small
shared6 = at (nd Evaluating None None (Some 0) false [] []) (nd EvaluatingAsync None (Some B) None false (D ∷ []) []) (untouched) (nd EvaluatingAsync None (Some D) None false [] (B ∷ [])) (D ∷ B ∷ []) (Pending ∷ Pending ∷ []) [] (D ∷ [])

abbrev shared7 : Small
shared7 = at (nd Evaluating None None (Some 0) false (B ∷ []) []) (nd EvaluatingAsync None (Some B) None false (D ∷ []) (A ∷ [])) (untouched) (nd EvaluatingAsync None (Some D) None false [] (B ∷ [])) (D ∷ B ∷ []) (Pending ∷ Pending ∷ []) [] (D ∷ [])

abbrev shared8 : Small
shared8 = at (nd Evaluating None None (Some 0) false (B ∷ []) []) (nd EvaluatingAsync None (Some B) None false (D ∷ []) (A ∷ [])) (nd Evaluating None None None false [] []) (nd EvaluatingAsync None (Some D) None false [] (B ∷ [])) (D ∷ B ∷ []) (Pending ∷ Pending ∷ []) [] (D ∷ [])

abbrev shared9 : Small
shared9 = at (nd Evaluating None None (Some 0) false (B ∷ []) []) (nd EvaluatingAsync None (Some B) None false (D ∷ []) (A ∷ [])) (nd Evaluating None None None false (D ∷ []) []) (nd EvaluatingAsync None (Some D) None false [] (B ∷ C ∷ [])) (D ∷ B ∷ []) (Pending ∷ Pending ∷ []) [] (D ∷ [])

abbrev shared10 : Small
shared10 = at (nd Evaluating None None (Some 0) false (B ∷ []) []) (nd EvaluatingAsync None (Some B) None false (D ∷ []) (A ∷ [])) (nd EvaluatingAsync None (Some C) None false (D ∷ []) []) (nd EvaluatingAsync None (Some D) None false [] (B ∷ C ∷ [])) (D ∷ B ∷ C ∷ []) (Pending ∷ Pending ∷ []) [] (D ∷ [])

abbrev shared11 : Small
shared11 = at (nd Evaluating None None (Some 0) false (B ∷ C ∷ []) []) (nd EvaluatingAsync None (Some B) None false (D ∷ []) (A ∷ [])) (nd EvaluatingAsync None (Some C) None false (D ∷ []) (A ∷ [])) (nd EvaluatingAsync None (Some D) None false [] (B ∷ C ∷ [])) (D ∷ B ∷ C ∷ []) (Pending ∷ Pending ∷ []) [] (D ∷ [])

abbrev shared12 : Small
shared12 = at (nd EvaluatingAsync None (Some A) (Some 0) false (B ∷ C ∷ []) []) (nd EvaluatingAsync None (Some B) None false (D ∷ []) (A ∷ [])) (nd EvaluatingAsync None (Some C) None false (D ∷ []) (A ∷ [])) (nd EvaluatingAsync None (Some D) None false [] (B ∷ C ∷ [])) (D ∷ B ∷ C ∷ A ∷ []) (Pending ∷ Pending ∷ []) [] (D ∷ [])

shared_step11 : Marks (small diamond (only D)) (Writes all_run) diamond shared11 (A ∷ []) (Leave A ∷ []) Ends shared12
shared_step11 = component (Leaves.waiting refl) refl done

shared_step10 : Marks (small diamond (only D)) (Writes all_run) diamond shared10 (A ∷ []) (Pass A 1 ∷ Leave A ∷ []) Ends shared12
shared_step10 = passes refl refl shared_step11

shared_step9 : Marks (small diamond (only D)) (Writes all_run) diamond shared9 (A ∷ C ∷ []) (Leave C ∷ Pass A 1 ∷ Leave A ∷ []) Ends shared12
shared_step9 = component (Leaves.waiting refl) refl shared_step10

shared_step8 : Marks (small diamond (only D)) (Writes all_run) diamond shared8 (A ∷ C ∷ []) (Pass C 0 ∷ Leave C ∷ Pass A 1 ∷ Leave A ∷ []) Ends shared12
shared_step8 = passes refl refl shared_step9

shared_step7 : Marks (small diamond (only D)) (Writes all_run) diamond shared7 (A ∷ []) (Enter C ∷ Pass C 0 ∷ Leave C ∷ Pass A 1 ∷ Leave A ∷ []) Ends shared12
shared_step7 = enters shared_step8

shared_step6 : Marks (small diamond (only D)) (Writes all_run) diamond shared6 (A ∷ []) (Pass A 0 ∷ Enter C ∷ Pass C 0 ∷ Leave C ∷ Pass A 1 ∷ Leave A ∷ []) Ends shared12
shared_step6 = passes refl refl shared_step7

shared_step5 : Marks (small diamond (only D)) (Writes all_run) diamond shared5 (A ∷ B ∷ []) (Leave B ∷ Pass A 0 ∷ Enter C ∷ Pass C 0 ∷ Leave C ∷ Pass A 1 ∷ Leave A ∷ []) Ends shared12
shared_step5 = component (Leaves.waiting refl) refl shared_step6

shared_step4 : Marks (small diamond (only D)) (Writes all_run) diamond shared4 (A ∷ B ∷ []) (Pass B 0 ∷ Leave B ∷ Pass A 0 ∷ Enter C ∷ Pass C 0 ∷ Leave C ∷ Pass A 1 ∷ Leave A ∷ []) Ends shared12
shared_step4 = passes refl refl shared_step5

shared_step3 : Marks (small diamond (only D)) (Writes all_run) diamond shared3 (A ∷ B ∷ D ∷ []) (Leave D ∷ Pass B 0 ∷ Leave B ∷ Pass A 0 ∷ Enter C ∷ Pass C 0 ∷ Leave C ∷ Pass A 1 ∷ Leave A ∷ []) Ends shared12
shared_step3 = component (Leaves.starts refl refl (ExecutesAsync.starts (refl, refl))) refl shared_step4

shared_step2 : Marks (small diamond (only D)) (Writes all_run) diamond shared2 (A ∷ B ∷ []) (Enter D ∷ Leave D ∷ Pass B 0 ∷ Leave B ∷ Pass A 0 ∷ Enter C ∷ Pass C 0 ∷ Leave C ∷ Pass A 1 ∷ Leave A ∷ []) Ends shared12
shared_step2 = enters shared_step3

shared_step1 : Marks (small diamond (only D)) (Writes all_run) diamond shared1 (A ∷ []) (Enter B ∷ Enter D ∷ Leave D ∷ Pass B 0 ∷ Leave B ∷ Pass A 0 ∷ Enter C ∷ Pass C 0 ∷ Leave C ∷ Pass A 1 ∷ Leave A ∷ []) Ends shared12
shared_step1 = enters shared_step2

shared_step0 : Marks (small diamond (only D)) (Writes all_run) diamond shared0 [] (Enter A ∷ Enter B ∷ Enter D ∷ Leave D ∷ Pass B 0 ∷ Leave B ∷ Pass A 0 ∷ Enter C ∷ Pass C 0 ∷ Leave C ∷ Pass A 1 ∷ Leave A ∷ []) Ends shared12
shared_step0 = enters shared_step1

abbrev shared13 : Small
shared13 = at (nd EvaluatingAsync None (Some A) (Some 0) false (B ∷ C ∷ []) []) (nd EvaluatingAsync None (Some B) None false (D ∷ []) (A ∷ [])) (nd EvaluatingAsync None (Some C) None false (D ∷ []) (A ∷ [])) (nd EvaluatingAsync None (Some D) None false [] (B ∷ C ∷ [])) (D ∷ B ∷ C ∷ A ∷ []) (Pending ∷ Pending ∷ []) [] (D ∷ [])

abbrev shared14 : Small
shared14 = at (nd EvaluatingAsync None (Some A) (Some 0) false (B ∷ C ∷ []) []) (nd EvaluatingAsync None (Some B) None false (D ∷ []) (A ∷ [])) (nd EvaluatingAsync None (Some C) None false (D ∷ []) (A ∷ [])) (nd Evaluated (Some D) (Some D) None true [] (B ∷ C ∷ [])) (D ∷ B ∷ C ∷ A ∷ []) (Pending ∷ Pending ∷ []) [] (D ∷ [])

abbrev shared15 : Small
shared15 = at (nd EvaluatingAsync None (Some A) (Some 0) false (B ∷ C ∷ []) []) (nd Evaluated (Some D) (Some B) None true (D ∷ []) (A ∷ [])) (nd EvaluatingAsync None (Some C) None false (D ∷ []) (A ∷ [])) (nd Evaluated (Some D) (Some D) None true [] (B ∷ C ∷ [])) (D ∷ B ∷ C ∷ A ∷ []) (Pending ∷ Pending ∷ []) [] (D ∷ [])

abbrev shared16 : Small
shared16 = at (nd Evaluated (Some D) (Some A) (Some 0) true (B ∷ C ∷ []) []) (nd Evaluated (Some D) (Some B) None true (D ∷ []) (A ∷ [])) (nd EvaluatingAsync None (Some C) None false (D ∷ []) (A ∷ [])) (nd Evaluated (Some D) (Some D) None true [] (B ∷ C ∷ [])) (D ∷ B ∷ C ∷ A ∷ []) (Rejected D ∷ Pending ∷ []) (0 ∷ []) (D ∷ [])

abbrev shared17 : Small
shared17 = at (nd Evaluated (Some D) (Some A) (Some 0) true (B ∷ C ∷ []) []) (nd Evaluated (Some D) (Some B) None true (D ∷ []) (A ∷ [])) (nd Evaluated (Some D) (Some C) None true (D ∷ []) (A ∷ [])) (nd Evaluated (Some D) (Some D) None true [] (B ∷ C ∷ [])) (D ∷ B ∷ C ∷ A ∷ []) (Rejected D ∷ Pending ∷ []) (0 ∷ []) (D ∷ [])

rejects_a : Rejects (small diamond (only D)) shared15 A D shared16
rejects_a = Rejects.rejects async RejectsAll.none

rejects_b : Rejects (small diamond (only D)) shared14 B D shared16
rejects_b = Rejects.rejects async (RejectsAll.next rejects_a RejectsAll.none)

rejects_c : Rejects (small diamond (only D)) shared16 C D shared17
rejects_c = Rejects.rejects async (RejectsAll.next (Rejects.over refl) RejectsAll.none)

rejects_d : Rejects (small diamond (only D)) shared13 D D shared17
rejects_d = Rejects.rejects async (RejectsAll.next rejects_b (RejectsAll.next rejects_c RejectsAll.none))

pub shared_rejection : SharedRejection
shared_rejection = record {
  mid = shared13;
  after = shared17;
  evaluates = EvaluatesRoot.walks refl refl (record {
    closed = [];
    closed_is = nothing_begun;
    marks = Enter A ∷ Enter B ∷ Enter D ∷ Leave D ∷ Pass B 0 ∷ Leave B ∷ Pass A 0 ∷ Enter C ∷ Pass C 0 ∷ Leave C ∷ Pass A 1 ∷ Leave A ∷ [];
    walk = (_, fresh refl (next (fresh refl (next (fresh refl all) all)) (next (fresh refl (next (known refl) all)) all)));
    leads = shared_step0;
  });
  first = refl;
  stamps = refl;
  waiters = (refl, refl);
  rejects = rejects_d;
  errors = (refl, refl, refl);
  rejected = refl;
  no_more = refl;
}
