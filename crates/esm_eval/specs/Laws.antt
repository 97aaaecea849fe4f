-- The laws of evaluation, over any world and any relation for the calls for bodies.
use Rattle.std.specs.Prelude.{◌≡◌, ℕ, false, Result, Ok}
use Rattle.esm_eval.specs.Nodes.{BodyCalls}
use Rattle.esm_eval.specs.Evaluation.{Evaluation, IsLawful, IsSteady, HasOneOutcome}
use Rattle.esm_eval.specs.Evaluate.{Evaluates}
use Rattle.esm_eval.specs.BodyEnd.{Rejects, Fulfills}
use Rattle.esm_eval.specs.Waiting.{IsBetweenCalls, IsOpening}
use Rattle.esm_eval.specs.Begins.{First, BeginsOne, HaveBegunOnce}

module _ {N V W S : Type 0} (E : Evaluation N V W) (acts : BodyCalls N V W S) where
  -- where each call for a body has at most one outcome, so has an evaluation, and so has what follows the end of a body
  pub record OneOutcome : Type 0 where
    pub evaluates : (w : W) (m : N) (a b : Result ℕ S) (x y : W) → Evaluates E acts w m a x → Evaluates E acts w m b y
        → (b ≡ a) × (y ≡ x)
    pub fulfills : (w : W) (m : N) (a b : Result (Unit {0}) S) (x y : W) → Fulfills E acts w m a x → Fulfills E acts w m b y
        → (b ≡ a) × (y ≡ x)
    pub rejects : (w : W) (m : N) (v : V) (x y : W) → Rejects E w m v x → Rejects E w m v y → y ≡ x

  abbrev pub OneEvaluation : Type 0
  OneEvaluation = HasOneOutcome E acts → OneOutcome

  -- each call that isn't stopped keeps what holds between calls
  pub record KeepsBetweenCalls : Type 0 where
    pub opening : (w : W) → IsOpening E w → IsBetweenCalls E w
    pub evaluates : (w after : W) (m : N) (p : ℕ) → IsBetweenCalls E w → Evaluates E acts w m (Ok p) after → IsBetweenCalls E after
    pub fulfills : (w after : W) (m : N) → IsBetweenCalls E w → Fulfills E acts w m (Ok tt) after → IsBetweenCalls E after
    pub rejects : (w after : W) (m : N) (v : V) → IsBetweenCalls E w → Rejects E w m v after → IsBetweenCalls E after

  abbrev pub WaitsStayOpen : Type 0
  WaitsStayOpen = IsLawful E → IsSteady E acts → KeepsBetweenCalls

  -- each call for a body that an evaluation makes, or that follows the end of a body, is of one that hasn't begun
  pub record MakesFirstCalls : Type 0 where
    pub opening : (w : W) → IsOpening E w → ((x : N) → E.begun w x ≡ false) → HaveBegunOnce E w
    pub evaluates : (w after : W) (m : N) (a : Result ℕ S) → HaveBegunOnce E w → Evaluates E acts w m a after
        → Evaluates E (First E acts) w m a after
    pub fulfills : (w after : W) (m : N) (a : Result (Unit {0}) S) → HaveBegunOnce E w → Fulfills E acts w m a after
        → Fulfills E (First E acts) w m a after
    pub keeps_evaluates : (w after : W) (m : N) (p : ℕ) → HaveBegunOnce E w → Evaluates E acts w m (Ok p) after
        → HaveBegunOnce E after
    pub keeps_fulfills : (w after : W) (m : N) → HaveBegunOnce E w → Fulfills E acts w m (Ok tt) after → HaveBegunOnce E after
    pub keeps_rejects : (w after : W) (m : N) (v : V) → HaveBegunOnce E w → Rejects E w m v after → HaveBegunOnce E after

  abbrev pub BeginsOnce : Type 0
  BeginsOnce = IsLawful E → IsSteady E acts → BeginsOne E acts → MakesFirstCalls
