-- A module that is ready and throws, state by state.
use Rattle.std.proofs.Common.{◌≡◌, true, false, [], ◌∷◌, Some, None, refl}
use Rattle.std.specs.Prelude.{Ok}
use Rattle.esm_base.specs.Lists.{is_in}
use Rattle.esm_realm.specs.Walk.Mark.{Enter, Pass, Leave}
use Rattle.esm_realm.specs.Walk.Visits.{known, fresh}
use Rattle.esm_realm.specs.Walk.Passes.{all, next}
use Rattle.esm_eval.specs.Nodes.{NotEntered, Evaluating, EvaluatingAsync, Evaluated, untouched, was_entered}
use Rattle.esm_eval.specs.Evaluate.{Ends, Leaves, ExecutesAsync, Executes, Marks, EvaluatesRoot}
use Rattle.esm_eval.specs.Evaluate.Marks.{done, enters, passes, component}
use Rattle.esm_eval.specs.BodyEnd.{IsReady, AreOver, ReadyAmong, GoOn, Fulfills, Rejects, RejectsAll}
use Rattle.esm_eval.specs.SmallWorld.{Name, A, B, C, D, Small, small, same_name, Writes, fails, only, Pending, Rejected}
use Rattle.esm_eval.specs.Examples.{chain, ReadyThrows}
use Rattle.esm_eval.proofs.runs.States.{nd, at, async, not_ready, nothing_begun}

abbrev ready0 : Small
ready0 = at (untouched) (nd NotEntered None None (Some 0) false [] []) (untouched) (untouched) [] (Pending ∷ []) [] []

abbrev ready1 : Small
ready1 = at (untouched) (nd Evaluating None None (Some 0) false [] []) (untouched) (untouched) [] (Pending ∷ []) [] []

abbrev ready2 : Small
ready2 = at (untouched) (nd Evaluating None None (Some 0) false [] []) (nd Evaluating None None None false [] []) (untouched) [] (Pending ∷ []) [] []

abbrev ready3 : Small
ready3 = at (untouched) (nd Evaluating None None (Some 0) false [] []) (nd EvaluatingAsync None (Some C) None false [] []) (untouched) (C ∷ []) (Pending ∷ Pending ∷ []) [] (C ∷ [])

abbrev ready4 : Small
ready4 = at (untouched) (nd Evaluating None None (Some 0) false (C ∷ []) []) (nd EvaluatingAsync None (Some C) None false [] (B ∷ [])) (untouched) (C ∷ []) (Pending ∷ Pending ∷ []) [] (C ∷ [])

abbrev ready5 : Small
ready5 = at (untouched) (nd EvaluatingAsync None (Some B) (Some 0) false (C ∷ []) []) (nd EvaluatingAsync None (Some C) None false [] (B ∷ [])) (untouched) (C ∷ B ∷ []) (Pending ∷ Pending ∷ []) [] (C ∷ [])

ready_step4 : Marks (small chain (only C)) (Writes (fails B)) chain ready4 (B ∷ []) (Leave B ∷ []) Ends ready5
ready_step4 = component (Leaves.waiting refl) refl done

ready_step3 : Marks (small chain (only C)) (Writes (fails B)) chain ready3 (B ∷ []) (Pass B 0 ∷ Leave B ∷ []) Ends ready5
ready_step3 = passes refl refl ready_step4

ready_step2 : Marks (small chain (only C)) (Writes (fails B)) chain ready2 (B ∷ C ∷ []) (Leave C ∷ Pass B 0 ∷ Leave B ∷ []) Ends ready5
ready_step2 = component (Leaves.starts refl refl (ExecutesAsync.starts (refl, refl))) refl ready_step3

ready_step1 : Marks (small chain (only C)) (Writes (fails B)) chain ready1 (B ∷ []) (Enter C ∷ Leave C ∷ Pass B 0 ∷ Leave B ∷ []) Ends ready5
ready_step1 = enters ready_step2

ready_step0 : Marks (small chain (only C)) (Writes (fails B)) chain ready0 [] (Enter B ∷ Enter C ∷ Leave C ∷ Pass B 0 ∷ Leave B ∷ []) Ends ready5
ready_step0 = enters ready_step1

abbrev ready6 : Small
ready6 = at (untouched) (nd EvaluatingAsync None (Some B) (Some 0) false (C ∷ []) []) (nd EvaluatingAsync None (Some C) None false [] (B ∷ [])) (untouched) (C ∷ B ∷ []) (Pending ∷ Pending ∷ []) [] (C ∷ [])

abbrev ready7 : Small
ready7 = at (nd NotEntered None None (Some 2) false [] []) (nd EvaluatingAsync None (Some B) (Some 0) false (C ∷ []) []) (nd EvaluatingAsync None (Some C) None false [] (B ∷ [])) (untouched) (C ∷ B ∷ []) (Pending ∷ Pending ∷ Pending ∷ []) [] (C ∷ [])

abbrev ready8 : Small
ready8 = at (nd Evaluating None None (Some 2) false [] []) (nd EvaluatingAsync None (Some B) (Some 0) false (C ∷ []) []) (nd EvaluatingAsync None (Some C) None false [] (B ∷ [])) (untouched) (C ∷ B ∷ []) (Pending ∷ Pending ∷ Pending ∷ []) [] (C ∷ [])

abbrev ready9 : Small
ready9 = at (nd Evaluating None None (Some 2) false (B ∷ []) []) (nd EvaluatingAsync None (Some B) (Some 0) false (C ∷ []) (A ∷ [])) (nd EvaluatingAsync None (Some C) None false [] (B ∷ [])) (untouched) (C ∷ B ∷ []) (Pending ∷ Pending ∷ Pending ∷ []) [] (C ∷ [])

abbrev ready10 : Small
ready10 = at (nd EvaluatingAsync None (Some A) (Some 2) false (B ∷ []) []) (nd EvaluatingAsync None (Some B) (Some 0) false (C ∷ []) (A ∷ [])) (nd EvaluatingAsync None (Some C) None false [] (B ∷ [])) (untouched) (C ∷ B ∷ A ∷ []) (Pending ∷ Pending ∷ Pending ∷ []) [] (C ∷ [])

ready_step9 : Marks (small chain (only C)) (Writes (fails B)) chain ready9 (A ∷ []) (Leave A ∷ []) Ends ready10
ready_step9 = component (Leaves.waiting refl) refl done

ready_step8 : Marks (small chain (only C)) (Writes (fails B)) chain ready8 (A ∷ []) (Pass A 0 ∷ Leave A ∷ []) Ends ready10
ready_step8 = passes refl refl ready_step9

ready_step7 : Marks (small chain (only C)) (Writes (fails B)) chain ready7 [] (Enter A ∷ Pass A 0 ∷ Leave A ∷ []) Ends ready10
ready_step7 = enters ready_step8

abbrev ready11 : Small
ready11 = at (nd EvaluatingAsync None (Some A) (Some 2) false (B ∷ []) []) (nd EvaluatingAsync None (Some B) (Some 0) false (C ∷ []) (A ∷ [])) (nd EvaluatingAsync None (Some C) None false [] (B ∷ [])) (untouched) (C ∷ B ∷ A ∷ []) (Pending ∷ Pending ∷ Pending ∷ []) [] (C ∷ [])

abbrev ready12 : Small
ready12 = at (nd EvaluatingAsync None (Some A) (Some 2) false (B ∷ []) []) (nd EvaluatingAsync None (Some B) (Some 0) false (C ∷ []) (A ∷ [])) (nd Evaluated None (Some C) None true [] (B ∷ [])) (untouched) (C ∷ B ∷ A ∷ []) (Pending ∷ Pending ∷ Pending ∷ []) [] (C ∷ [])

abbrev ready13 : Small
ready13 = at (nd EvaluatingAsync None (Some A) (Some 2) false (B ∷ []) []) (nd EvaluatingAsync None (Some B) (Some 0) false (C ∷ []) (A ∷ [])) (nd Evaluated None (Some C) None true [] (B ∷ [])) (untouched) (C ∷ B ∷ A ∷ []) (Pending ∷ Pending ∷ Pending ∷ []) [] (C ∷ B ∷ [])

abbrev ready14 : Small
ready14 = at (nd EvaluatingAsync None (Some A) (Some 2) false (B ∷ []) []) (nd Evaluated (Some B) (Some B) (Some 0) true (C ∷ []) (A ∷ [])) (nd Evaluated None (Some C) None true [] (B ∷ [])) (untouched) (C ∷ B ∷ A ∷ []) (Rejected B ∷ Pending ∷ Pending ∷ []) (0 ∷ []) (C ∷ B ∷ [])

abbrev ready15 : Small
ready15 = at (nd Evaluated (Some B) (Some A) (Some 2) true (B ∷ []) []) (nd Evaluated (Some B) (Some B) (Some 0) true (C ∷ []) (A ∷ [])) (nd Evaluated None (Some C) None true [] (B ∷ [])) (untouched) (C ∷ B ∷ A ∷ []) (Rejected B ∷ Pending ∷ Rejected B ∷ []) (0 ∷ 2 ∷ []) (C ∷ B ∷ [])

begun : (x : Name) → is_in same_name (B ∷ C ∷ []) x ≡ was_entered ((small chain (only C)).node ready6 x).phase
begun A = refl
begun B = refl
begun C = refl
begun D = refl

ready_b : IsReady (small chain (only C)) ready12 B
ready_b = IsReady.ready refl refl refl refl (AreOver.done refl AreOver.none)

ready_a : IsReady (small chain (only C)) ready12 A
ready_a = IsReady.ready refl refl refl refl (AreOver.joins refl ready_b AreOver.none)

rejects_a : Rejects (small chain (only C)) ready14 A B ready15
rejects_a = Rejects.rejects async RejectsAll.none

rejects_b : Rejects (small chain (only C)) ready13 B B ready15
rejects_b = Rejects.rejects async (RejectsAll.next rejects_a RejectsAll.none)

goes_on : Fulfills (small chain (only C)) (Writes (fails B)) ready11 C (Ok tt) ready15
goes_on = Fulfills.goes_on async (ReadyAmong.dropped (not_ready refl) (ReadyAmong.kept ready_b (ReadyAmong.kept ready_a ReadyAmong.none)))
    (GoOn.throws B async refl (Executes.throws B (refl, refl)) rejects_b (GoOn.skips refl GoOn.none))

pub ready_throws : ReadyThrows
ready_throws = record {
  first = ready6;
  mid = ready11;
  after = ready15;
  evaluates = EvaluatesRoot.walks refl refl (record {
    closed = [];
    closed_is = nothing_begun;
    marks = Enter B ∷ Enter C ∷ Leave C ∷ Pass B 0 ∷ Leave B ∷ [];
    walk = (_, fresh refl (next (fresh refl all) all));
    leads = ready_step0;
  });
  later = EvaluatesRoot.walks refl refl (record {
    closed = B ∷ C ∷ [];
    closed_is = begun;
    marks = Enter A ∷ Pass A 0 ∷ Leave A ∷ [];
    walk = (_, fresh refl (next (known refl) all));
    leads = ready_step7;
  });
  ends = goes_on;
  log = refl;
  errors = (refl, refl, refl);
  promises = refl;
  order = refl;
}
