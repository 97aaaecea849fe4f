-- What is asked of worlds, modules and values so that each call of evaluation has an outcome.
use Rattle.std.specs.Prelude.{◌≡◌, ℕ, true, false, List, All, IfSome, Result, Ok, Err, ⊤}
use Rattle.esm_base.specs.Lists.{is_in}
use Rattle.esm_values.specs.Ran.{Ran, Normal, Thrown}
use Rattle.esm_eval.specs.Nodes.{Node, was_entered, Start, Run, BodyCalls}
use Rattle.esm_eval.specs.Evaluation.{Evaluation, phase, IsLawful}
use Rattle.esm_eval.specs.Evaluate.{Evaluates}
use Rattle.esm_eval.specs.BodyEnd.{Fulfills, Rejects}

-- a node names modules, and keeps a value that is known
pub record IsNodeOf {N V : Type 0} (IsModule : N → Type 0) (IsKnown : V → Type 0) (n : Node N V) : Type 0 where
  pub error : IfSome n.error IsKnown
  pub root : IfSome n.cycle_root IsModule
  pub waits : All IsModule n.waits
  pub waiters : All IsModule n.waiters

abbrev pub throws_known : {V S : Type 0} → (V → Type 0) → Result (Ran V) S → Type 0
throws_known IsKnown (Ok (Thrown v)) = IsKnown v
throws_known IsKnown (Ok Normal) = ⊤
throws_known IsKnown (Err why) = ⊤

module _ {N V W S : Type 0} (E : Evaluation N V W) (acts : BodyCalls N V W S) where
  -- the worlds that fit: finitely many modules are linked, what is read of them names linked modules, and in each such world
  -- a call for the body of a linked module has an outcome. Whatever evaluation writes, the world still fits
  pub record CanEvaluate (Fits : W → Type 0) (IsModule : N → Type 0) (IsKnown : V → Type 0) : Type 0 where
    pub modules : List N
    pub among : (x : N) → IsModule x → is_in E.same modules x ≡ true
    pub entered : (w : W) → Fits w → (closed : List N) × ((x : N) → is_in E.same closed x ≡ was_entered (phase E w x))
    pub targets : (w : W) → Fits w → (x t : N) → IsModule x → is_in E.same (E.targets w x) t ≡ true → IsModule t
    pub node : (w : W) → Fits w → (x : N) → IsNodeOf IsModule IsKnown (E.node w x)
    pub stamps : (w : W) → Fits w → All IsModule (E.stamps w)
    -- what evaluation writes
    pub put : (w : W) (x : N) (n : Node N V) → Fits w → IsModule x → IsNodeOf IsModule IsKnown n → Fits (E.put w x n)
    pub add_stamp : (w : W) (x : N) → Fits w → IsModule x → Fits (E.add_stamp w x)
    pub make_promise : (w : W) → Fits w → Fits (E.make_promise w)
    pub fulfill : (w : W) (p : ℕ) → Fits w → Fits (E.fulfill w p)
    pub reject : (w : W) (p : ℕ) (v : V) → Fits w → IsKnown v → Fits (E.reject w p v)
    -- the calls for bodies
    pub start : (w : W) (m : N) → Fits w → IsModule m → E.awaits w m ≡ true → (r : Result (Unit {0}) S)
        × (after : W) × acts (E.make_body_promise w m) (Start m (E.next_promise w)) r after × Fits after
    pub run : (w : W) (m : N) → Fits w → IsModule m → E.awaits w m ≡ false
        → (r : Result (Ran V) S) × (after : W) × acts w (Run m) r after × Fits after × throws_known IsKnown r

  -- then each call of evaluation has an outcome, which fits
  pub record HasOutcomes (Fits : W → Type 0) (IsModule : N → Type 0) (IsKnown : V → Type 0) : Type 0 where
    pub evaluates : (w : W) (m : N) → Fits w → IsModule m
        → (a : Result ℕ S) × (after : W) × Evaluates E acts w m a after × Fits after
    pub fulfills : (w : W) (m : N) → Fits w → IsModule m
        → (a : Result (Unit {0}) S) × (after : W) × Fulfills E acts w m a after × Fits after
    pub rejects : (w : W) (m : N) (v : V) → Fits w → IsModule m → IsKnown v → (after : W) × Rejects E w m v after × Fits after

  abbrev pub HasEvaluation : (W → Type 0) → (N → Type 0) → (V → Type 0) → Type 0
  HasEvaluation Fits IsModule IsKnown = IsLawful E → CanEvaluate Fits IsModule IsKnown → HasOutcomes Fits IsModule IsKnown
