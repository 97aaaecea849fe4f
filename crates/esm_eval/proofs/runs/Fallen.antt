-- A cycle root that fails, state by state.
use Rattle.std.proofs.Common.{◌≡◌, true, false, [], ◌∷◌, Some, None, refl}
use Rattle.std.specs.Prelude.{Ok}
use Rattle.esm_base.specs.Lists.{is_in}
use Rattle.esm_realm.specs.Walk.Mark.{Enter, Pass, Leave}
use Rattle.esm_realm.specs.Walk.Visits.{known, fresh}
use Rattle.esm_realm.specs.Walk.Passes.{all, next}
use Rattle.esm_eval.specs.Nodes.{NotEntered, Evaluating, EvaluatingAsync, Evaluated, untouched, was_entered}
use Rattle.esm_eval.specs.Evaluate.{Ends, Throws, Leaves, ExecutesAsync, Executes, Marks, EvaluatesRoot}
use Rattle.esm_eval.specs.Evaluate.Marks.{done, enters, passes, stays, component, pass_throws}
use Rattle.esm_eval.specs.BodyEnd.{IsReady, AreOver, ReadyAmong, GoOn, Fulfills, Rejects, RejectsAll}
use Rattle.esm_eval.specs.SmallWorld.{Name, A, B, C, D, Small, small, same_name, Writes, fails, only, Pending, Rejected}
use Rattle.esm_eval.specs.Examples.{cycle_beside, RootFails}
use Rattle.esm_eval.proofs.runs.States.{nd, at, async, not_ready, nothing_begun}

abbrev fallen0 : Small
fallen0 = at (nd NotEntered None None (Some 0) false [] []) (untouched) (untouched) (untouched) [] (Pending ∷ []) [] []

abbrev fallen1 : Small
fallen1 = at (nd Evaluating None None (Some 0) false [] []) (untouched) (untouched) (untouched) [] (Pending ∷ []) [] []

abbrev fallen2 : Small
fallen2 = at (nd Evaluating None None (Some 0) false [] []) (nd Evaluating None None None false [] []) (untouched) (untouched) [] (Pending ∷ []) [] []

abbrev fallen3 : Small
fallen3 = at (nd Evaluating None None (Some 0) false [] []) (nd Evaluating None None None false [] []) (untouched) (untouched) [] (Pending ∷ []) [] []

abbrev fallen4 : Small
fallen4 = at (nd Evaluating None None (Some 0) false [] []) (nd Evaluating None None None false [] []) (untouched) (untouched) (B ∷ []) (Pending ∷ Pending ∷ []) [] (B ∷ [])

abbrev fallen5 : Small
fallen5 = at (nd Evaluating None None (Some 0) false (B ∷ []) []) (nd Evaluating None None None false [] (A ∷ [])) (untouched) (untouched) (B ∷ []) (Pending ∷ Pending ∷ []) [] (B ∷ [])

abbrev fallen6 : Small
fallen6 = at (nd EvaluatingAsync None (Some A) (Some 0) false (B ∷ []) []) (nd EvaluatingAsync None (Some A) None false [] (A ∷ [])) (untouched) (untouched) (B ∷ A ∷ []) (Pending ∷ Pending ∷ []) [] (B ∷ [])

fallen_step5 : Marks (small cycle_beside (only B)) (Writes (fails A)) cycle_beside fallen5 (A ∷ B ∷ []) (Leave A ∷ []) Ends fallen6
fallen_step5 = component (Leaves.waiting refl) refl done

fallen_step4 : Marks (small cycle_beside (only B)) (Writes (fails A)) cycle_beside fallen4 (A ∷ B ∷ []) (Pass A 0 ∷ Leave A ∷ []) Ends fallen6
fallen_step4 = passes refl refl fallen_step5

fallen_step3 : Marks (small cycle_beside (only B)) (Writes (fails A)) cycle_beside fallen3 (A ∷ B ∷ []) (Leave B ∷ Pass A 0 ∷ Leave A ∷ []) Ends fallen6
fallen_step3 = stays (Leaves.starts refl refl (ExecutesAsync.starts (refl, refl))) refl fallen_step4

fallen_step2 : Marks (small cycle_beside (only B)) (Writes (fails A)) cycle_beside fallen2 (A ∷ B ∷ []) (Pass B 0 ∷ Leave B ∷ Pass A 0 ∷ Leave A ∷ []) Ends fallen6
fallen_step2 = passes refl refl fallen_step3

fallen_step1 : Marks (small cycle_beside (only B)) (Writes (fails A)) cycle_beside fallen1 (A ∷ []) (Enter B ∷ Pass B 0 ∷ Leave B ∷ Pass A 0 ∷ Leave A ∷ []) Ends fallen6
fallen_step1 = enters fallen_step2

fallen_step0 : Marks (small cycle_beside (only B)) (Writes (fails A)) cycle_beside fallen0 [] (Enter A ∷ Enter B ∷ Pass B 0 ∷ Leave B ∷ Pass A 0 ∷ Leave A ∷ []) Ends fallen6
fallen_step0 = enters fallen_step1

abbrev fallen7 : Small
fallen7 = at (nd EvaluatingAsync None (Some A) (Some 0) false (B ∷ []) []) (nd EvaluatingAsync None (Some A) None false [] (A ∷ [])) (untouched) (untouched) (B ∷ A ∷ []) (Pending ∷ Pending ∷ []) [] (B ∷ [])

abbrev fallen8 : Small
fallen8 = at (nd EvaluatingAsync None (Some A) (Some 0) false (B ∷ []) []) (nd Evaluated None (Some A) None true [] (A ∷ [])) (untouched) (untouched) (B ∷ A ∷ []) (Pending ∷ Pending ∷ []) [] (B ∷ [])

abbrev fallen9 : Small
fallen9 = at (nd EvaluatingAsync None (Some A) (Some 0) false (B ∷ []) []) (nd Evaluated None (Some A) None true [] (A ∷ [])) (untouched) (untouched) (B ∷ A ∷ []) (Pending ∷ Pending ∷ []) [] (B ∷ A ∷ [])

abbrev fallen10 : Small
fallen10 = at (nd Evaluated (Some A) (Some A) (Some 0) true (B ∷ []) []) (nd Evaluated None (Some A) None true [] (A ∷ [])) (untouched) (untouched) (B ∷ A ∷ []) (Rejected A ∷ Pending ∷ []) (0 ∷ []) (B ∷ A ∷ [])

abbrev fallen11 : Small
fallen11 = at (nd Evaluated (Some A) (Some A) (Some 0) true (B ∷ []) []) (nd Evaluated None (Some A) None true [] (A ∷ [])) (untouched) (nd NotEntered None None (Some 2) false [] []) (B ∷ A ∷ []) (Rejected A ∷ Pending ∷ Pending ∷ []) (0 ∷ []) (B ∷ A ∷ [])

abbrev fallen12 : Small
fallen12 = at (nd Evaluated (Some A) (Some A) (Some 0) true (B ∷ []) []) (nd Evaluated None (Some A) None true [] (A ∷ [])) (untouched) (nd Evaluating None None (Some 2) false [] []) (B ∷ A ∷ []) (Rejected A ∷ Pending ∷ Pending ∷ []) (0 ∷ []) (B ∷ A ∷ [])

abbrev fallen13 : Small
fallen13 = at (nd Evaluated (Some A) (Some A) (Some 0) true (B ∷ []) []) (nd Evaluated None (Some A) None true [] (A ∷ [])) (untouched) (nd Evaluated (Some A) None (Some 2) false [] []) (B ∷ A ∷ []) (Rejected A ∷ Pending ∷ Pending ∷ []) (0 ∷ []) (B ∷ A ∷ [])

fallen_step12 : Marks (small cycle_beside (only B)) (Writes (fails A)) cycle_beside fallen12 (D ∷ []) (Pass D 0 ∷ Leave D ∷ []) (Throws A) fallen13
fallen_step12 = pass_throws A refl refl

fallen_step11 : Marks (small cycle_beside (only B)) (Writes (fails A)) cycle_beside fallen11 [] (Enter D ∷ Pass D 0 ∷ Leave D ∷ []) (Throws A) fallen13
fallen_step11 = enters fallen_step12

abbrev fallen14 : Small
fallen14 = at (nd Evaluated (Some A) (Some A) (Some 0) true (B ∷ []) []) (nd Evaluated None (Some A) None true [] (A ∷ [])) (untouched) (nd Evaluated (Some A) None (Some 2) false [] []) (B ∷ A ∷ []) (Rejected A ∷ Pending ∷ Rejected A ∷ []) (0 ∷ 2 ∷ []) (B ∷ A ∷ [])

begun : (x : Name) → is_in same_name (A ∷ B ∷ []) x ≡ was_entered ((small cycle_beside (only B)).node fallen10 x).phase
begun A = refl
begun B = refl
begun C = refl
begun D = refl

rejects_a : Rejects (small cycle_beside (only B)) fallen9 A A fallen10
rejects_a = Rejects.rejects async RejectsAll.none

goes_on : Fulfills (small cycle_beside (only B)) (Writes (fails A)) fallen7 B (Ok tt) fallen10
goes_on = Fulfills.goes_on async (ReadyAmong.dropped (not_ready refl) (ReadyAmong.kept (IsReady.ready refl refl refl refl (AreOver.done refl AreOver.none)) ReadyAmong.none)) (GoOn.throws A async refl (Executes.throws A (refl, refl)) rejects_a GoOn.none)

pub root_fails : RootFails
root_fails = record {
  first = fallen7;
  mid = fallen10;
  after = fallen14;
  evaluates = EvaluatesRoot.walks refl refl (record {
    closed = [];
    closed_is = nothing_begun;
    marks = Enter A ∷ Enter B ∷ Pass B 0 ∷ Leave B ∷ Pass A 0 ∷ Leave A ∷ [];
    walk = (_, fresh refl (next (fresh refl (next (known refl) all)) all));
    leads = fallen_step0;
  });
  ends = goes_on;
  log = refl;
  errors = (refl, refl, refl);
  rejected = refl;
  member = EvaluatesRoot.kept 0 refl;
  later = EvaluatesRoot.throws A refl refl (record {
    closed = A ∷ B ∷ [];
    closed_is = begun;
    marks = Enter D ∷ Pass D 0 ∷ Leave D ∷ [];
    walk = (_, fresh refl (next (known refl) all));
    leads = fallen_step11;
  });
  no_more = refl;
  both = refl;
}
