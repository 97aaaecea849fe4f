-- A limit stops a call for a body, state by state.
use Rattle.std.proofs.Common.{false, [], ◌∷◌, Some, None, refl}
use Rattle.esm_realm.specs.Walk.Mark.{Enter, Pass, Leave}
use Rattle.esm_realm.specs.Walk.Visits.{fresh}
use Rattle.esm_realm.specs.Walk.Passes.{all, next}
use Rattle.esm_eval.specs.Nodes.{NotEntered, Evaluating, untouched}
use Rattle.esm_eval.specs.Evaluate.{Stops, Leaves, Executes, Marks, EvaluatesRoot}
use Rattle.esm_eval.specs.Evaluate.Marks.{enters, leave_stops}
use Rattle.esm_eval.specs.SmallWorld.{A, B, C, Small, small, Writes, halts, none, Pending}
use Rattle.esm_eval.specs.Examples.{chain, StopsAtOnce}
use Rattle.esm_eval.proofs.runs.States.{nd, at, nothing_begun}

abbrev stopped0 : Small
stopped0 = at (nd NotEntered None None (Some 0) false [] []) (untouched) (untouched) (untouched) [] (Pending ∷ []) [] []

abbrev stopped1 : Small
stopped1 = at (nd Evaluating None None (Some 0) false [] []) (untouched) (untouched) (untouched) [] (Pending ∷ []) [] []

abbrev stopped2 : Small
stopped2 = at (nd Evaluating None None (Some 0) false [] []) (nd Evaluating None None None false [] []) (untouched) (untouched) [] (Pending ∷ []) [] []

abbrev stopped3 : Small
stopped3 = at (nd Evaluating None None (Some 0) false [] []) (nd Evaluating None None None false [] []) (nd Evaluating None None None false [] []) (untouched) [] (Pending ∷ []) [] []

stopped_step3 : Marks (small chain none) (Writes (halts C)) chain stopped3 (A ∷ B ∷ C ∷ []) (Leave C ∷ Pass B 0 ∷ Leave B ∷ Pass A 0 ∷ Leave A ∷ []) (Stops tt) stopped3
stopped_step3 = leave_stops tt (Leaves.runs refl refl (Executes.stops tt (refl, refl)))

stopped_step2 : Marks (small chain none) (Writes (halts C)) chain stopped2 (A ∷ B ∷ []) (Enter C ∷ Leave C ∷ Pass B 0 ∷ Leave B ∷ Pass A 0 ∷ Leave A ∷ []) (Stops tt) stopped3
stopped_step2 = enters stopped_step3

stopped_step1 : Marks (small chain none) (Writes (halts C)) chain stopped1 (A ∷ []) (Enter B ∷ Enter C ∷ Leave C ∷ Pass B 0 ∷ Leave B ∷ Pass A 0 ∷ Leave A ∷ []) (Stops tt) stopped3
stopped_step1 = enters stopped_step2

stopped_step0 : Marks (small chain none) (Writes (halts C)) chain stopped0 [] (Enter A ∷ Enter B ∷ Enter C ∷ Leave C ∷ Pass B 0 ∷ Leave B ∷ Pass A 0 ∷ Leave A ∷ []) (Stops tt) stopped3
stopped_step0 = enters stopped_step1

pub stops_at_once : StopsAtOnce
stops_at_once = record {
  after = stopped3;
  stops = EvaluatesRoot.stops tt refl refl (record {
    closed = [];
    closed_is = nothing_begun;
    marks = Enter A ∷ Enter B ∷ Enter C ∷ Leave C ∷ Pass B 0 ∷ Leave B ∷ Pass A 0 ∷ Leave A ∷ [];
    walk = (_, fresh refl (next (fresh refl (next (fresh refl all) all)) all));
    leads = stopped_step0;
  });
  log = refl;
  pending = refl;
  phases = (refl, refl, refl);
}
