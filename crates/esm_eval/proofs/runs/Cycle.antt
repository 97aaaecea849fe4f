-- A cycle of which one module awaits, state by state.
use Rattle.std.proofs.Common.{true, false, [], ◌∷◌, Some, None, refl}
use Rattle.std.specs.Prelude.{Ok}
use Rattle.esm_realm.specs.Walk.Mark.{Enter, Pass, Leave}
use Rattle.esm_realm.specs.Walk.Visits.{known, fresh}
use Rattle.esm_realm.specs.Walk.Passes.{all, next}
use Rattle.esm_eval.specs.Nodes.{NotEntered, Evaluating, EvaluatingAsync, Evaluated, untouched}
use Rattle.esm_eval.specs.Evaluate.{Ends, Leaves, ExecutesAsync, Executes, Marks, EvaluatesRoot}
use Rattle.esm_eval.specs.Evaluate.Marks.{done, enters, passes, stays, component}
use Rattle.esm_eval.specs.BodyEnd.{IsReady, AreOver, ReadyAmong, GoOn, Fulfills}
use Rattle.esm_eval.specs.SmallWorld.{A, B, Small, small, Writes, all_run, only, Pending, Fulfilled}
use Rattle.esm_eval.specs.Examples.{cycle, CycleOfWhichOneAwaits}
use Rattle.esm_eval.proofs.runs.States.{nd, at, async, not_ready, nothing_begun}

abbrev one0 : Small
one0 = at (nd NotEntered None None (Some 0) false [] []) (untouched) (untouched) (untouched) [] (Pending ∷ []) [] []

abbrev one1 : Small
one1 = at (nd Evaluating None None (Some 0) false [] []) (untouched) (untouched) (untouched) [] (Pending ∷ []) [] []

abbrev one2 : Small
one2 = at (nd Evaluating None None (Some 0) false [] []) (nd Evaluating None None None false [] []) (untouched) (untouched) [] (Pending ∷ []) [] []

abbrev one3 : Small
one3 = at (nd Evaluating None None (Some 0) false [] []) (nd Evaluating None None None false [] []) (untouched) (untouched) [] (Pending ∷ []) [] []

abbrev one4 : Small
one4 = at (nd Evaluating None None (Some 0) false [] []) (nd Evaluating None None None false [] []) (untouched) (untouched) (B ∷ []) (Pending ∷ Pending ∷ []) [] (B ∷ [])

abbrev one5 : Small
one5 = at (nd Evaluating None None (Some 0) false (B ∷ []) []) (nd Evaluating None None None false [] (A ∷ [])) (untouched) (untouched) (B ∷ []) (Pending ∷ Pending ∷ []) [] (B ∷ [])

abbrev one6 : Small
one6 = at (nd EvaluatingAsync None (Some A) (Some 0) false (B ∷ []) []) (nd EvaluatingAsync None (Some A) None false [] (A ∷ [])) (untouched) (untouched) (B ∷ A ∷ []) (Pending ∷ Pending ∷ []) [] (B ∷ [])

one_step5 : Marks (small cycle (only B)) (Writes all_run) cycle one5 (A ∷ B ∷ []) (Leave A ∷ []) Ends one6
one_step5 = component (Leaves.waiting refl) refl done

one_step4 : Marks (small cycle (only B)) (Writes all_run) cycle one4 (A ∷ B ∷ []) (Pass A 0 ∷ Leave A ∷ []) Ends one6
one_step4 = passes refl refl one_step5

one_step3 : Marks (small cycle (only B)) (Writes all_run) cycle one3 (A ∷ B ∷ []) (Leave B ∷ Pass A 0 ∷ Leave A ∷ []) Ends one6
one_step3 = stays (Leaves.starts refl refl (ExecutesAsync.starts (refl, refl))) refl one_step4

one_step2 : Marks (small cycle (only B)) (Writes all_run) cycle one2 (A ∷ B ∷ []) (Pass B 0 ∷ Leave B ∷ Pass A 0 ∷ Leave A ∷ []) Ends one6
one_step2 = passes refl refl one_step3

one_step1 : Marks (small cycle (only B)) (Writes all_run) cycle one1 (A ∷ []) (Enter B ∷ Pass B 0 ∷ Leave B ∷ Pass A 0 ∷ Leave A ∷ []) Ends one6
one_step1 = enters one_step2

one_step0 : Marks (small cycle (only B)) (Writes all_run) cycle one0 [] (Enter A ∷ Enter B ∷ Pass B 0 ∷ Leave B ∷ Pass A 0 ∷ Leave A ∷ []) Ends one6
one_step0 = enters one_step1

abbrev one7 : Small
one7 = at (nd EvaluatingAsync None (Some A) (Some 0) false (B ∷ []) []) (nd EvaluatingAsync None (Some A) None false [] (A ∷ [])) (untouched) (untouched) (B ∷ A ∷ []) (Pending ∷ Pending ∷ []) [] (B ∷ [])

abbrev one8 : Small
one8 = at (nd EvaluatingAsync None (Some A) (Some 0) false (B ∷ []) []) (nd Evaluated None (Some A) None true [] (A ∷ [])) (untouched) (untouched) (B ∷ A ∷ []) (Pending ∷ Pending ∷ []) [] (B ∷ [])

abbrev one9 : Small
one9 = at (nd Evaluated None (Some A) (Some 0) true (B ∷ []) []) (nd Evaluated None (Some A) None true [] (A ∷ [])) (untouched) (untouched) (B ∷ A ∷ []) (Fulfilled ∷ Pending ∷ []) (0 ∷ []) (B ∷ A ∷ [])

goes_on : Fulfills (small cycle (only B)) (Writes all_run) one7 B (Ok tt) one9
goes_on = Fulfills.goes_on async (ReadyAmong.dropped (not_ready refl) (ReadyAmong.kept (IsReady.ready refl refl refl refl (AreOver.done refl AreOver.none)) ReadyAmong.none)) (GoOn.runs async refl (Executes.ends (refl, refl)) GoOn.none)

pub cycle_of_which_one_awaits : CycleOfWhichOneAwaits
cycle_of_which_one_awaits = record {
  mid = one7;
  after = one9;
  evaluates = EvaluatesRoot.walks refl refl (record {
    closed = [];
    closed_is = nothing_begun;
    marks = Enter A ∷ Enter B ∷ Pass B 0 ∷ Leave B ∷ Pass A 0 ∷ Leave A ∷ [];
    walk = (_, fresh refl (next (fresh refl (next (known refl) all)) all));
    leads = one_step0;
  });
  first = refl;
  stamps = refl;
  pending = refl;
  ends = goes_on;
  second = refl;
  fulfilled = refl;
}
