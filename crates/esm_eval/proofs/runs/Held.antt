-- A module that is ready, awaits, and holds another one back, state by state.
use Rattle.std.proofs.Common.{true, false, [], ◌∷◌, Some, None, refl}
use Rattle.std.specs.Prelude.{Ok}
use Rattle.esm_realm.specs.Walk.Mark.{Enter, Pass, Leave}
use Rattle.esm_realm.specs.Walk.Visits.{fresh}
use Rattle.esm_realm.specs.Walk.Passes.{all, next}
use Rattle.esm_eval.specs.Nodes.{NotEntered, Evaluating, EvaluatingAsync, Evaluated, untouched}
use Rattle.esm_eval.specs.Evaluate.{Ends, Leaves, ExecutesAsync, Executes, Marks, EvaluatesRoot}
use Rattle.esm_eval.specs.Evaluate.Marks.{done, enters, passes, component}
use Rattle.esm_eval.specs.BodyEnd.{IsReady, AreOver, ReadyAmong, GoOn, Fulfills}
use Rattle.esm_eval.specs.SmallWorld.{A, B, C, Small, small, Writes, all_run, both, Pending, Fulfilled}
use Rattle.esm_eval.specs.Examples.{chain, ReadyHoldsBack}
use Rattle.esm_eval.proofs.runs.States.{nd, at, async, not_ready, nothing_begun}

abbrev held0 : Small
held0 = at (nd NotEntered None None (Some 0) false [] []) (untouched) (untouched) (untouched) [] (Pending ∷ []) [] []

abbrev held1 : Small
held1 = at (nd Evaluating None None (Some 0) false [] []) (untouched) (untouched) (untouched) [] (Pending ∷ []) [] []

abbrev held2 : Small
held2 = at (nd Evaluating None None (Some 0) false [] []) (nd Evaluating None None None false [] []) (untouched) (untouched) [] (Pending ∷ []) [] []

abbrev held3 : Small
held3 = at (nd Evaluating None None (Some 0) false [] []) (nd Evaluating None None None false [] []) (nd Evaluating None None None false [] []) (untouched) [] (Pending ∷ []) [] []

abbrev held4 : Small
held4 = at (nd Evaluating None None (Some 0) false [] []) (nd Evaluating None None None false [] []) (nd EvaluatingAsync None (Some C) None false [] []) (untouched) (C ∷ []) (Pending ∷ Pending ∷ []) [] (C ∷ [])

abbrev held5 : Small
held5 = at (nd Evaluating None None (Some 0) false [] []) (nd Evaluating None None None false (C ∷ []) []) (nd EvaluatingAsync None (Some C) None false [] (B ∷ [])) (untouched) (C ∷ []) (Pending ∷ Pending ∷ []) [] (C ∷ [])

abbrev held6 : Small
held6 = at (nd Evaluating None None (Some 0) false [] []) (nd EvaluatingAsync None (Some B) None false (C ∷ []) []) (nd EvaluatingAsync None (Some C) None false [] (B ∷ [])) (untouched) (C ∷ B ∷ []) (Pending ∷ Pending ∷ []) [] (C ∷ [])

abbrev held7 : Small
held7 = at (nd Evaluating None None (Some 0) false (B ∷ []) []) (nd EvaluatingAsync None (Some B) None false (C ∷ []) (A ∷ [])) (nd EvaluatingAsync None (Some C) None false [] (B ∷ [])) (untouched) (C ∷ B ∷ []) (Pending ∷ Pending ∷ []) [] (C ∷ [])

abbrev held8 : Small
held8 = at (nd EvaluatingAsync None (Some A) (Some 0) false (B ∷ []) []) (nd EvaluatingAsync None (Some B) None false (C ∷ []) (A ∷ [])) (nd EvaluatingAsync None (Some C) None false [] (B ∷ [])) (untouched) (C ∷ B ∷ A ∷ []) (Pending ∷ Pending ∷ []) [] (C ∷ [])

held_step7 : Marks (small chain (both B C)) (Writes all_run) chain held7 (A ∷ []) (Leave A ∷ []) Ends held8
held_step7 = component (Leaves.waiting refl) refl done

held_step6 : Marks (small chain (both B C)) (Writes all_run) chain held6 (A ∷ []) (Pass A 0 ∷ Leave A ∷ []) Ends held8
held_step6 = passes refl refl held_step7

held_step5 : Marks (small chain (both B C)) (Writes all_run) chain held5 (A ∷ B ∷ []) (Leave B ∷ Pass A 0 ∷ Leave A ∷ []) Ends held8
held_step5 = component (Leaves.waiting refl) refl held_step6

held_step4 : Marks (small chain (both B C)) (Writes all_run) chain held4 (A ∷ B ∷ []) (Pass B 0 ∷ Leave B ∷ Pass A 0 ∷ Leave A ∷ []) Ends held8
held_step4 = passes refl refl held_step5

held_step3 : Marks (small chain (both B C)) (Writes all_run) chain held3 (A ∷ B ∷ C ∷ []) (Leave C ∷ Pass B 0 ∷ Leave B ∷ Pass A 0 ∷ Leave A ∷ []) Ends held8
held_step3 = component (Leaves.starts refl refl (ExecutesAsync.starts (refl, refl))) refl held_step4

held_step2 : Marks (small chain (both B C)) (Writes all_run) chain held2 (A ∷ B ∷ []) (Enter C ∷ Leave C ∷ Pass B 0 ∷ Leave B ∷ Pass A 0 ∷ Leave A ∷ []) Ends held8
held_step2 = enters held_step3

held_step1 : Marks (small chain (both B C)) (Writes all_run) chain held1 (A ∷ []) (Enter B ∷ Enter C ∷ Leave C ∷ Pass B 0 ∷ Leave B ∷ Pass A 0 ∷ Leave A ∷ []) Ends held8
held_step1 = enters held_step2

held_step0 : Marks (small chain (both B C)) (Writes all_run) chain held0 [] (Enter A ∷ Enter B ∷ Enter C ∷ Leave C ∷ Pass B 0 ∷ Leave B ∷ Pass A 0 ∷ Leave A ∷ []) Ends held8
held_step0 = enters held_step1

abbrev held9 : Small
held9 = at (nd EvaluatingAsync None (Some A) (Some 0) false (B ∷ []) []) (nd EvaluatingAsync None (Some B) None false (C ∷ []) (A ∷ [])) (nd EvaluatingAsync None (Some C) None false [] (B ∷ [])) (untouched) (C ∷ B ∷ A ∷ []) (Pending ∷ Pending ∷ []) [] (C ∷ [])

abbrev held10 : Small
held10 = at (nd EvaluatingAsync None (Some A) (Some 0) false (B ∷ []) []) (nd EvaluatingAsync None (Some B) None false (C ∷ []) (A ∷ [])) (nd Evaluated None (Some C) None true [] (B ∷ [])) (untouched) (C ∷ B ∷ A ∷ []) (Pending ∷ Pending ∷ []) [] (C ∷ [])

abbrev held11 : Small
held11 = at (nd EvaluatingAsync None (Some A) (Some 0) false (B ∷ []) []) (nd EvaluatingAsync None (Some B) None false (C ∷ []) (A ∷ [])) (nd Evaluated None (Some C) None true [] (B ∷ [])) (untouched) (C ∷ B ∷ A ∷ []) (Pending ∷ Pending ∷ Pending ∷ []) [] (C ∷ B ∷ [])

abbrev held12 : Small
held12 = at (nd EvaluatingAsync None (Some A) (Some 0) false (B ∷ []) []) (nd Evaluated None (Some B) None true (C ∷ []) (A ∷ [])) (nd Evaluated None (Some C) None true [] (B ∷ [])) (untouched) (C ∷ B ∷ A ∷ []) (Pending ∷ Pending ∷ Pending ∷ []) [] (C ∷ B ∷ [])

abbrev held13 : Small
held13 = at (nd Evaluated None (Some A) (Some 0) true (B ∷ []) []) (nd Evaluated None (Some B) None true (C ∷ []) (A ∷ [])) (nd Evaluated None (Some C) None true [] (B ∷ [])) (untouched) (C ∷ B ∷ A ∷ []) (Fulfilled ∷ Pending ∷ Pending ∷ []) (0 ∷ []) (C ∷ B ∷ A ∷ [])

held : IsReady (small chain (both B C)) held10 A → ⊥
held (IsReady.ready s p b f (AreOver.done h o)) = cc
held (IsReady.ready s p b f (AreOver.joins h r o)) = cc

starts_b : Fulfills (small chain (both B C)) (Writes all_run) held9 C (Ok tt) held11
starts_b = Fulfills.goes_on async (ReadyAmong.dropped (not_ready refl) (ReadyAmong.kept (IsReady.ready refl refl refl refl (AreOver.done refl AreOver.none)) (ReadyAmong.dropped held ReadyAmong.none)))
    (GoOn.starts async refl (ExecutesAsync.starts (refl, refl)) GoOn.none)

runs_a : Fulfills (small chain (both B C)) (Writes all_run) held11 B (Ok tt) held13
runs_a = Fulfills.goes_on async (ReadyAmong.dropped (not_ready refl) (ReadyAmong.dropped (not_ready refl) (ReadyAmong.kept (IsReady.ready refl refl refl refl (AreOver.done refl AreOver.none)) ReadyAmong.none)))
    (GoOn.runs async refl (Executes.ends (refl, refl)) GoOn.none)

pub ready_holds_back : ReadyHoldsBack
ready_holds_back = record {
  first = held9;
  mid = held11;
  after = held13;
  evaluates = EvaluatesRoot.walks refl refl (record {
    closed = [];
    closed_is = nothing_begun;
    marks = Enter A ∷ Enter B ∷ Enter C ∷ Leave C ∷ Pass B 0 ∷ Leave B ∷ Pass A 0 ∷ Leave A ∷ [];
    walk = (_, fresh refl (next (fresh refl (next (fresh refl all) all)) all));
    leads = held_step0;
  });
  stamps = refl;
  ends = starts_b;
  log = refl;
  waits_on = refl;
  next = runs_a;
  whole = refl;
  fulfilled = refl;
}
