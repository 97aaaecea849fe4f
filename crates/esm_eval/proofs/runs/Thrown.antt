-- A throw in a cycle, state by state.
use Rattle.std.proofs.Common.{false, [], ◌∷◌, Some, None, refl}
use Rattle.esm_realm.specs.Walk.Mark.{Enter, Pass, Leave}
use Rattle.esm_realm.specs.Walk.Visits.{known, fresh}
use Rattle.esm_realm.specs.Walk.Passes.{all, next}
use Rattle.esm_eval.specs.Nodes.{NotEntered, Evaluating, Evaluated, untouched}
use Rattle.esm_eval.specs.Evaluate.{Throws, Leaves, Executes, Marks, EvaluatesRoot}
use Rattle.esm_eval.specs.Evaluate.Marks.{enters, passes, component, leave_throws}
use Rattle.esm_eval.specs.SmallWorld.{A, B, C, Small, small, Writes, fails, none, Pending, Rejected}
use Rattle.esm_eval.specs.Examples.{cycle_behind, ThrowInCycle}
use Rattle.esm_eval.proofs.runs.States.{nd, at, nothing_begun}

abbrev thrown0 : Small
thrown0 = at (nd NotEntered None None (Some 0) false [] []) (untouched) (untouched) (untouched) [] (Pending ∷ []) [] []

abbrev thrown1 : Small
thrown1 = at (nd Evaluating None None (Some 0) false [] []) (untouched) (untouched) (untouched) [] (Pending ∷ []) [] []

abbrev thrown2 : Small
thrown2 = at (nd Evaluating None None (Some 0) false [] []) (nd Evaluating None None None false [] []) (untouched) (untouched) [] (Pending ∷ []) [] []

abbrev thrown3 : Small
thrown3 = at (nd Evaluating None None (Some 0) false [] []) (nd Evaluating None None None false [] []) (nd Evaluating None None None false [] []) (untouched) [] (Pending ∷ []) [] []

abbrev thrown4 : Small
thrown4 = at (nd Evaluating None None (Some 0) false [] []) (nd Evaluating None None None false [] []) (nd Evaluated None (Some C) None false [] []) (untouched) [] (Pending ∷ []) [] (C ∷ [])

abbrev thrown5 : Small
thrown5 = at (nd Evaluating None None (Some 0) false [] []) (nd Evaluating None None None false [] []) (nd Evaluated None (Some C) None false [] []) (untouched) [] (Pending ∷ []) [] (C ∷ [])

abbrev thrown6 : Small
thrown6 = at (nd Evaluating None None (Some 0) false [] []) (nd Evaluating None None None false [] []) (nd Evaluated None (Some C) None false [] []) (untouched) [] (Pending ∷ []) [] (C ∷ [])

abbrev thrown7 : Small
thrown7 = at (nd Evaluated (Some B) None (Some 0) false [] []) (nd Evaluated (Some B) None None false [] []) (nd Evaluated None (Some C) None false [] []) (untouched) [] (Pending ∷ []) [] (C ∷ B ∷ [])

thrown_step6 : Marks (small cycle_behind none) (Writes (fails B)) cycle_behind thrown6 (A ∷ B ∷ []) (Leave B ∷ Pass A 0 ∷ Leave A ∷ []) (Throws B) thrown7
thrown_step6 = leave_throws B (Leaves.runs refl refl (Executes.throws B (refl, refl)))

thrown_step5 : Marks (small cycle_behind none) (Writes (fails B)) cycle_behind thrown5 (A ∷ B ∷ []) (Pass B 1 ∷ Leave B ∷ Pass A 0 ∷ Leave A ∷ []) (Throws B) thrown7
thrown_step5 = passes refl refl thrown_step6

thrown_step4 : Marks (small cycle_behind none) (Writes (fails B)) cycle_behind thrown4 (A ∷ B ∷ []) (Pass B 0 ∷ Pass B 1 ∷ Leave B ∷ Pass A 0 ∷ Leave A ∷ []) (Throws B) thrown7
thrown_step4 = passes refl refl thrown_step5

thrown_step3 : Marks (small cycle_behind none) (Writes (fails B)) cycle_behind thrown3 (A ∷ B ∷ C ∷ []) (Leave C ∷ Pass B 0 ∷ Pass B 1 ∷ Leave B ∷ Pass A 0 ∷ Leave A ∷ []) (Throws B) thrown7
thrown_step3 = component (Leaves.runs refl refl (Executes.ends (refl, refl))) refl thrown_step4

thrown_step2 : Marks (small cycle_behind none) (Writes (fails B)) cycle_behind thrown2 (A ∷ B ∷ []) (Enter C ∷ Leave C ∷ Pass B 0 ∷ Pass B 1 ∷ Leave B ∷ Pass A 0 ∷ Leave A ∷ []) (Throws B) thrown7
thrown_step2 = enters thrown_step3

thrown_step1 : Marks (small cycle_behind none) (Writes (fails B)) cycle_behind thrown1 (A ∷ []) (Enter B ∷ Enter C ∷ Leave C ∷ Pass B 0 ∷ Pass B 1 ∷ Leave B ∷ Pass A 0 ∷ Leave A ∷ []) (Throws B) thrown7
thrown_step1 = enters thrown_step2

thrown_step0 : Marks (small cycle_behind none) (Writes (fails B)) cycle_behind thrown0 [] (Enter A ∷ Enter B ∷ Enter C ∷ Leave C ∷ Pass B 0 ∷ Pass B 1 ∷ Leave B ∷ Pass A 0 ∷ Leave A ∷ []) (Throws B) thrown7
thrown_step0 = enters thrown_step1

abbrev thrown8 : Small
thrown8 = at (nd Evaluated (Some B) None (Some 0) false [] []) (nd Evaluated (Some B) None None false [] []) (nd Evaluated None (Some C) None false [] []) (untouched) [] (Rejected B ∷ []) (0 ∷ []) (C ∷ B ∷ [])

abbrev thrown9 : Small
thrown9 = at (nd Evaluated (Some B) None (Some 0) false [] []) (nd Evaluated (Some B) None (Some 1) false [] []) (nd Evaluated None (Some C) None false [] []) (untouched) [] (Rejected B ∷ Rejected B ∷ []) (0 ∷ 1 ∷ []) (C ∷ B ∷ [])

pub throw_in_cycle : ThrowInCycle
throw_in_cycle = record {
  mid = thrown8;
  after = thrown9;
  evaluates = EvaluatesRoot.throws B refl refl (record {
    closed = [];
    closed_is = nothing_begun;
    marks = Enter A ∷ Enter B ∷ Enter C ∷ Leave C ∷ Pass B 0 ∷ Pass B 1 ∷ Leave B ∷ Pass A 0 ∷ Leave A ∷ [];
    walk = (_, fresh refl (next (fresh refl (next (fresh refl all) (next (known refl) all))) all));
    leads = thrown_step0;
  });
  log = refl;
  errors = (refl, refl, refl);
  phases = (refl, refl, refl);
  rejected = refl;
  again = EvaluatesRoot.kept 0 refl;
  other = EvaluatesRoot.thrown B refl refl;
  both = refl;
  no_more = refl;
}
