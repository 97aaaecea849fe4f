-- A throw beside a module that the walk hasn't entered yet.
use Rattle.std.proofs.Common.{false, [], ◌∷◌, Some, None, refl}
use Rattle.esm_realm.specs.Walk.Mark.{Enter, Pass, Leave}
use Rattle.esm_realm.specs.Walk.Visits.{fresh}
use Rattle.esm_realm.specs.Walk.Passes.{all, next}
use Rattle.esm_eval.specs.Nodes.{NotEntered, Evaluating, Evaluated, untouched}
use Rattle.esm_eval.specs.Evaluate.{Throws, Leaves, Executes, Marks, EvaluatesRoot}
use Rattle.esm_eval.specs.Evaluate.Marks.{enters, leave_throws}
use Rattle.esm_eval.specs.SmallWorld.{A, B, C, Small, small, Writes, fails, none, Pending, Rejected}
use Rattle.esm_eval.specs.Examples.{beside, NothingBehindAThrow}
use Rattle.esm_eval.proofs.runs.States.{nd, at, nothing_begun}

abbrev beside0 : Small
beside0 = at (nd NotEntered None None (Some 0) false [] []) (untouched) (untouched) (untouched) [] (Pending ∷ []) [] []

abbrev beside1 : Small
beside1 = at (nd Evaluating None None (Some 0) false [] []) (untouched) (untouched) (untouched) [] (Pending ∷ []) [] []

abbrev beside2 : Small
beside2 = at (nd Evaluating None None (Some 0) false [] []) (nd Evaluating None None None false [] []) (untouched) (untouched) [] (Pending ∷ []) [] []

abbrev beside3 : Small
beside3 = at (nd Evaluated (Some B) None (Some 0) false [] []) (nd Evaluated (Some B) None None false [] []) (untouched) (untouched) [] (Pending ∷ []) [] (B ∷ [])

beside_step2 : Marks (small beside none) (Writes (fails B)) beside beside2 (A ∷ B ∷ []) (Leave B ∷ Pass A 0 ∷ Enter C ∷ Leave C ∷ Pass A 1 ∷ Leave A ∷ []) (Throws B) beside3
beside_step2 = leave_throws B (Leaves.runs refl refl (Executes.throws B (refl, refl)))

beside_step1 : Marks (small beside none) (Writes (fails B)) beside beside1 (A ∷ []) (Enter B ∷ Leave B ∷ Pass A 0 ∷ Enter C ∷ Leave C ∷ Pass A 1 ∷ Leave A ∷ []) (Throws B) beside3
beside_step1 = enters beside_step2

beside_step0 : Marks (small beside none) (Writes (fails B)) beside beside0 [] (Enter A ∷ Enter B ∷ Leave B ∷ Pass A 0 ∷ Enter C ∷ Leave C ∷ Pass A 1 ∷ Leave A ∷ []) (Throws B) beside3
beside_step0 = enters beside_step1

abbrev beside4 : Small
beside4 = at (nd Evaluated (Some B) None (Some 0) false [] []) (nd Evaluated (Some B) None None false [] []) (untouched) (untouched) [] (Rejected B ∷ []) (0 ∷ []) (B ∷ [])

pub nothing_behind_a_throw : NothingBehindAThrow
nothing_behind_a_throw = record {
  after = beside4;
  evaluates = EvaluatesRoot.throws B refl refl (record {
    closed = [];
    closed_is = nothing_begun;
    marks = Enter A ∷ Enter B ∷ Leave B ∷ Pass A 0 ∷ Enter C ∷ Leave C ∷ Pass A 1 ∷ Leave A ∷ [];
    walk = (_, fresh refl (next (fresh refl all) (next (fresh refl all) all)));
    leads = beside_step0;
  });
  log = refl;
  phases = (refl, refl, refl);
  errors = (refl, refl);
  rejected = refl;
}
