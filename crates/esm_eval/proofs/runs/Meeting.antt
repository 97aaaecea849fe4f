-- An evaluation that meets a cycle that waits, state by state.
use Rattle.std.proofs.Common.{◌≡◌, true, false, [], ◌∷◌, Some, None, refl}
use Rattle.std.specs.Prelude.{Ok}
use Rattle.esm_base.specs.Lists.{is_in}
use Rattle.esm_realm.specs.Walk.Mark.{Enter, Pass, Leave}
use Rattle.esm_realm.specs.Walk.Visits.{known, fresh}
use Rattle.esm_realm.specs.Walk.Passes.{all, next}
use Rattle.esm_eval.specs.Nodes.{NotEntered, Evaluating, EvaluatingAsync, Evaluated, untouched, was_entered}
use Rattle.esm_eval.specs.Evaluate.{Ends, Leaves, ExecutesAsync, Executes, Marks, EvaluatesRoot}
use Rattle.esm_eval.specs.Evaluate.Marks.{done, enters, passes, stays, component}
use Rattle.esm_eval.specs.BodyEnd.{IsReady, AreOver, ReadyAmong, GoOn, Fulfills}
use Rattle.esm_eval.specs.SmallWorld.{Name, A, B, C, D, Small, small, same_name, Writes, all_run, only, Pending, Fulfilled}
use Rattle.esm_eval.specs.Examples.{meeting, MeetsAWaitingCycle}
use Rattle.esm_eval.proofs.runs.States.{nd, at, async, not_ready, nothing_begun}

abbrev met0 : Small
met0 = at (nd NotEntered None None (Some 0) false [] []) (untouched) (untouched) (untouched) [] (Pending ∷ []) [] []

abbrev met1 : Small
met1 = at (nd Evaluating None None (Some 0) false [] []) (untouched) (untouched) (untouched) [] (Pending ∷ []) [] []

abbrev met2 : Small
met2 = at (nd Evaluating None None (Some 0) false [] []) (nd Evaluating None None None false [] []) (untouched) (untouched) [] (Pending ∷ []) [] []

abbrev met3 : Small
met3 = at (nd Evaluating None None (Some 0) false [] []) (nd Evaluating None None None false [] []) (untouched) (untouched) [] (Pending ∷ []) [] []

abbrev met4 : Small
met4 = at (nd Evaluating None None (Some 0) false [] []) (nd Evaluating None None None false [] []) (nd Evaluating None None None false [] []) (untouched) [] (Pending ∷ []) [] []

abbrev met5 : Small
met5 = at (nd Evaluating None None (Some 0) false [] []) (nd Evaluating None None None false [] []) (nd EvaluatingAsync None (Some C) None false [] []) (untouched) (C ∷ []) (Pending ∷ Pending ∷ []) [] (C ∷ [])

abbrev met6 : Small
met6 = at (nd Evaluating None None (Some 0) false [] []) (nd Evaluating None None None false (C ∷ []) []) (nd EvaluatingAsync None (Some C) None false [] (B ∷ [])) (untouched) (C ∷ []) (Pending ∷ Pending ∷ []) [] (C ∷ [])

abbrev met7 : Small
met7 = at (nd Evaluating None None (Some 0) false [] []) (nd Evaluating None None None false (C ∷ []) []) (nd EvaluatingAsync None (Some C) None false [] (B ∷ [])) (untouched) (C ∷ B ∷ []) (Pending ∷ Pending ∷ []) [] (C ∷ [])

abbrev met8 : Small
met8 = at (nd Evaluating None None (Some 0) false (B ∷ []) []) (nd Evaluating None None None false (C ∷ []) (A ∷ [])) (nd EvaluatingAsync None (Some C) None false [] (B ∷ [])) (untouched) (C ∷ B ∷ []) (Pending ∷ Pending ∷ []) [] (C ∷ [])

abbrev met9 : Small
met9 = at (nd EvaluatingAsync None (Some A) (Some 0) false (B ∷ []) []) (nd EvaluatingAsync None (Some A) None false (C ∷ []) (A ∷ [])) (nd EvaluatingAsync None (Some C) None false [] (B ∷ [])) (untouched) (C ∷ B ∷ A ∷ []) (Pending ∷ Pending ∷ []) [] (C ∷ [])

met_step8 : Marks (small meeting (only C)) (Writes all_run) meeting met8 (A ∷ B ∷ []) (Leave A ∷ []) Ends met9
met_step8 = component (Leaves.waiting refl) refl done

met_step7 : Marks (small meeting (only C)) (Writes all_run) meeting met7 (A ∷ B ∷ []) (Pass A 0 ∷ Leave A ∷ []) Ends met9
met_step7 = passes refl refl met_step8

met_step6 : Marks (small meeting (only C)) (Writes all_run) meeting met6 (A ∷ B ∷ []) (Leave B ∷ Pass A 0 ∷ Leave A ∷ []) Ends met9
met_step6 = stays (Leaves.waiting refl) refl met_step7

met_step5 : Marks (small meeting (only C)) (Writes all_run) meeting met5 (A ∷ B ∷ []) (Pass B 1 ∷ Leave B ∷ Pass A 0 ∷ Leave A ∷ []) Ends met9
met_step5 = passes refl refl met_step6

met_step4 : Marks (small meeting (only C)) (Writes all_run) meeting met4 (A ∷ B ∷ C ∷ []) (Leave C ∷ Pass B 1 ∷ Leave B ∷ Pass A 0 ∷ Leave A ∷ []) Ends met9
met_step4 = component (Leaves.starts refl refl (ExecutesAsync.starts (refl, refl))) refl met_step5

met_step3 : Marks (small meeting (only C)) (Writes all_run) meeting met3 (A ∷ B ∷ []) (Enter C ∷ Leave C ∷ Pass B 1 ∷ Leave B ∷ Pass A 0 ∷ Leave A ∷ []) Ends met9
met_step3 = enters met_step4

met_step2 : Marks (small meeting (only C)) (Writes all_run) meeting met2 (A ∷ B ∷ []) (Pass B 0 ∷ Enter C ∷ Leave C ∷ Pass B 1 ∷ Leave B ∷ Pass A 0 ∷ Leave A ∷ []) Ends met9
met_step2 = passes refl refl met_step3

met_step1 : Marks (small meeting (only C)) (Writes all_run) meeting met1 (A ∷ []) (Enter B ∷ Pass B 0 ∷ Enter C ∷ Leave C ∷ Pass B 1 ∷ Leave B ∷ Pass A 0 ∷ Leave A ∷ []) Ends met9
met_step1 = enters met_step2

met_step0 : Marks (small meeting (only C)) (Writes all_run) meeting met0 [] (Enter A ∷ Enter B ∷ Pass B 0 ∷ Enter C ∷ Leave C ∷ Pass B 1 ∷ Leave B ∷ Pass A 0 ∷ Leave A ∷ []) Ends met9
met_step0 = enters met_step1

abbrev met10 : Small
met10 = at (nd EvaluatingAsync None (Some A) (Some 0) false (B ∷ []) []) (nd EvaluatingAsync None (Some A) None false (C ∷ []) (A ∷ [])) (nd EvaluatingAsync None (Some C) None false [] (B ∷ [])) (untouched) (C ∷ B ∷ A ∷ []) (Pending ∷ Pending ∷ []) [] (C ∷ [])

abbrev met11 : Small
met11 = at (nd EvaluatingAsync None (Some A) (Some 0) false (B ∷ []) []) (nd EvaluatingAsync None (Some A) None false (C ∷ []) (A ∷ [])) (nd EvaluatingAsync None (Some C) None false [] (B ∷ [])) (nd NotEntered None None (Some 2) false [] []) (C ∷ B ∷ A ∷ []) (Pending ∷ Pending ∷ Pending ∷ []) [] (C ∷ [])

abbrev met12 : Small
met12 = at (nd EvaluatingAsync None (Some A) (Some 0) false (B ∷ []) []) (nd EvaluatingAsync None (Some A) None false (C ∷ []) (A ∷ [])) (nd EvaluatingAsync None (Some C) None false [] (B ∷ [])) (nd Evaluating None None (Some 2) false [] []) (C ∷ B ∷ A ∷ []) (Pending ∷ Pending ∷ Pending ∷ []) [] (C ∷ [])

abbrev met13 : Small
met13 = at (nd EvaluatingAsync None (Some A) (Some 0) false (B ∷ []) (D ∷ [])) (nd EvaluatingAsync None (Some A) None false (C ∷ []) (A ∷ [])) (nd EvaluatingAsync None (Some C) None false [] (B ∷ [])) (nd Evaluating None None (Some 2) false (A ∷ []) []) (C ∷ B ∷ A ∷ []) (Pending ∷ Pending ∷ Pending ∷ []) [] (C ∷ [])

abbrev met14 : Small
met14 = at (nd EvaluatingAsync None (Some A) (Some 0) false (B ∷ []) (D ∷ [])) (nd EvaluatingAsync None (Some A) None false (C ∷ []) (A ∷ [])) (nd EvaluatingAsync None (Some C) None false [] (B ∷ [])) (nd EvaluatingAsync None (Some D) (Some 2) false (A ∷ []) []) (C ∷ B ∷ A ∷ D ∷ []) (Pending ∷ Pending ∷ Pending ∷ []) [] (C ∷ [])

met_step13 : Marks (small meeting (only C)) (Writes all_run) meeting met13 (D ∷ []) (Leave D ∷ []) Ends met14
met_step13 = component (Leaves.waiting refl) refl done

met_step12 : Marks (small meeting (only C)) (Writes all_run) meeting met12 (D ∷ []) (Pass D 0 ∷ Leave D ∷ []) Ends met14
met_step12 = passes refl refl met_step13

met_step11 : Marks (small meeting (only C)) (Writes all_run) meeting met11 [] (Enter D ∷ Pass D 0 ∷ Leave D ∷ []) Ends met14
met_step11 = enters met_step12

abbrev met15 : Small
met15 = at (nd EvaluatingAsync None (Some A) (Some 0) false (B ∷ []) (D ∷ [])) (nd EvaluatingAsync None (Some A) None false (C ∷ []) (A ∷ [])) (nd EvaluatingAsync None (Some C) None false [] (B ∷ [])) (nd EvaluatingAsync None (Some D) (Some 2) false (A ∷ []) []) (C ∷ B ∷ A ∷ D ∷ []) (Pending ∷ Pending ∷ Pending ∷ []) [] (C ∷ [])

abbrev met16 : Small
met16 = at (nd EvaluatingAsync None (Some A) (Some 0) false (B ∷ []) (D ∷ [])) (nd EvaluatingAsync None (Some A) None false (C ∷ []) (A ∷ [])) (nd Evaluated None (Some C) None true [] (B ∷ [])) (nd EvaluatingAsync None (Some D) (Some 2) false (A ∷ []) []) (C ∷ B ∷ A ∷ D ∷ []) (Pending ∷ Pending ∷ Pending ∷ []) [] (C ∷ [])

abbrev met17 : Small
met17 = at (nd EvaluatingAsync None (Some A) (Some 0) false (B ∷ []) (D ∷ [])) (nd Evaluated None (Some A) None true (C ∷ []) (A ∷ [])) (nd Evaluated None (Some C) None true [] (B ∷ [])) (nd EvaluatingAsync None (Some D) (Some 2) false (A ∷ []) []) (C ∷ B ∷ A ∷ D ∷ []) (Pending ∷ Pending ∷ Pending ∷ []) [] (C ∷ B ∷ [])

abbrev met18 : Small
met18 = at (nd Evaluated None (Some A) (Some 0) true (B ∷ []) (D ∷ [])) (nd Evaluated None (Some A) None true (C ∷ []) (A ∷ [])) (nd Evaluated None (Some C) None true [] (B ∷ [])) (nd EvaluatingAsync None (Some D) (Some 2) false (A ∷ []) []) (C ∷ B ∷ A ∷ D ∷ []) (Fulfilled ∷ Pending ∷ Pending ∷ []) (0 ∷ []) (C ∷ B ∷ A ∷ [])

abbrev met19 : Small
met19 = at (nd Evaluated None (Some A) (Some 0) true (B ∷ []) (D ∷ [])) (nd Evaluated None (Some A) None true (C ∷ []) (A ∷ [])) (nd Evaluated None (Some C) None true [] (B ∷ [])) (nd Evaluated None (Some D) (Some 2) true (A ∷ []) []) (C ∷ B ∷ A ∷ D ∷ []) (Fulfilled ∷ Pending ∷ Fulfilled ∷ []) (0 ∷ 2 ∷ []) (C ∷ B ∷ A ∷ D ∷ [])

begun : (x : Name) → is_in same_name (A ∷ B ∷ C ∷ []) x ≡ was_entered ((small meeting (only C)).node met10 x).phase
begun A = refl
begun B = refl
begun C = refl
begun D = refl

ready_b : IsReady (small meeting (only C)) met16 B
ready_b = IsReady.ready refl refl refl refl (AreOver.done refl AreOver.none)

ready_a : IsReady (small meeting (only C)) met16 A
ready_a = IsReady.ready refl refl refl refl (AreOver.joins refl ready_b AreOver.none)

ready_d : IsReady (small meeting (only C)) met16 D
ready_d = IsReady.ready refl refl refl refl (AreOver.joins refl ready_a AreOver.none)

third : GoOn (small meeting (only C)) (Writes all_run) met18 (D ∷ []) (Ok tt) met19
third = GoOn.runs async refl (Executes.ends (refl, refl)) GoOn.none

second : GoOn (small meeting (only C)) (Writes all_run) met17 (A ∷ D ∷ []) (Ok tt) met19
second = GoOn.runs async refl (Executes.ends (refl, refl)) third

first : GoOn (small meeting (only C)) (Writes all_run) met16 (B ∷ A ∷ D ∷ []) (Ok tt) met19
first = GoOn.runs async refl (Executes.ends (refl, refl)) second

goes_on : Fulfills (small meeting (only C)) (Writes all_run) met15 C (Ok tt) met19
goes_on = Fulfills.goes_on async (ReadyAmong.dropped (not_ready refl) (ReadyAmong.kept ready_b (ReadyAmong.kept ready_a (ReadyAmong.kept ready_d ReadyAmong.none)))) first

pub meets_a_waiting_cycle : MeetsAWaitingCycle
meets_a_waiting_cycle = record {
  first = met10;
  mid = met15;
  after = met19;
  evaluates = EvaluatesRoot.walks refl refl (record {
    closed = [];
    closed_is = nothing_begun;
    marks = Enter A ∷ Enter B ∷ Pass B 0 ∷ Enter C ∷ Leave C ∷ Pass B 1 ∷ Leave B ∷ Pass A 0 ∷ Leave A ∷ [];
    walk = (_, fresh refl (next (fresh refl (next (known refl) (next (fresh refl all) all))) all));
    leads = met_step0;
  });
  member = EvaluatesRoot.kept 0 refl;
  later = EvaluatesRoot.walks refl refl (record {
    closed = A ∷ B ∷ C ∷ [];
    closed_is = begun;
    marks = Enter D ∷ Pass D 0 ∷ Leave D ∷ [];
    walk = (_, fresh refl (next (known refl) all));
    leads = met_step11;
  });
  log = refl;
  waits = (refl, refl, refl);
  ends = goes_on;
  others = refl;
  fulfilled = refl;
}
