-- What holds between two calls, and that no body begins twice, for the calls of the code.
use Rattle.std.proofs.Common.{ℕ, Ok, Err}
use Rattle.std.specs.Prelude.{OnOk, Result}
use Rattle.esm_values.specs.Code.{CodeValue}
use Rattle.esm_values.specs.declared.value.PromiseId.{PromiseId}
use Rattle.esm_eval.specs.Evaluation.{IsLawful, IsSteady}
use Rattle.esm_eval.specs.BodyEnd.{Rejects}
use Rattle.esm_eval.specs.Begins.{First, BeginsOne, HaveBegunOnce}
use Rattle.esm_eval.specs.Calls.{CodeEvaluation, CodeCalls, EvaluatesAs, FulfillsAs}
use Rattle.esm_eval.specs.declared.walk.EvalEnd.{EvalEnd}
use Rattle.esm_eval.specs.declared.walk.EvalEnd.TheVariants as ends
use Rattle.esm_eval.proofs.OnceEnds.{begins_once}

module _ {W S : Type 0} (E : CodeEvaluation W) (acts : CodeCalls W S) (L : IsLawful E) (steady : IsSteady E acts) (one : BeginsOne E acts) where
  pub first_evaluates : (w : W) (m : ℕ) (r : Result PromiseId (EvalEnd S)) (after : W) → HaveBegunOnce E w → EvaluatesAs E acts w m r after → EvaluatesAs E (First E acts) w m r after
  first_evaluates w m (Ok p) after h e = (begins_once E acts L steady one).evaluates w after m (Ok p.0) h e
  first_evaluates w m (Err (ends.Stopped why)) after h e = (begins_once E acts L steady one).evaluates w after m (Err why) h e
  first_evaluates w m (Err ends.Memory) after h e = tt

  pub keeps_evaluates : (w : W) (m : ℕ) (r : Result PromiseId (EvalEnd S)) (after : W) → HaveBegunOnce E w → EvaluatesAs E acts w m r after → OnOk r (HaveBegunOnce E after)
  keeps_evaluates w m (Ok p) after h e = (begins_once E acts L steady one).keeps_evaluates w after m p.0 h e
  keeps_evaluates w m (Err (ends.Stopped why)) after h e = tt
  keeps_evaluates w m (Err ends.Memory) after h e = tt

  pub first_fulfills : (w : W) (m : ℕ) (r : Result (Unit {0}) (EvalEnd S)) (after : W) → HaveBegunOnce E w → FulfillsAs E acts w m r after → FulfillsAs E (First E acts) w m r after
  first_fulfills w m (Ok u) after h e = (begins_once E acts L steady one).fulfills w after m (Ok tt) h e
  first_fulfills w m (Err (ends.Stopped why)) after h e = (begins_once E acts L steady one).fulfills w after m (Err why) h e
  first_fulfills w m (Err ends.Memory) after h e = tt

  pub keeps_fulfills : (w : W) (m : ℕ) (r : Result (Unit {0}) (EvalEnd S)) (after : W) → HaveBegunOnce E w → FulfillsAs E acts w m r after → OnOk r (HaveBegunOnce E after)
  keeps_fulfills w m (Ok u) after h e = (begins_once E acts L steady one).keeps_fulfills w after m h e
  keeps_fulfills w m (Err (ends.Stopped why)) after h e = tt
  keeps_fulfills w m (Err ends.Memory) after h e = tt

  pub keeps_rejects : {X : Type 0} (w : W) (m : ℕ) (v : CodeValue) (r : Result (Unit {0}) X) (after : W) → HaveBegunOnce E w → OnOk r (Rejects E w m v after) → OnOk r (HaveBegunOnce E after)
  keeps_rejects w m v (Ok u) after h e = (begins_once E acts L steady one).keeps_rejects w after m v h e
  keeps_rejects w m v (Err end) after h e = tt
