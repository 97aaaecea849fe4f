-- What the calls of the code come to, where modules have numbers. Where memory ran out nothing is said.
use Rattle.std.specs.Prelude.{ℕ, nat_eq, Result, Ok, Err}
use Rattle.esm_values.specs.Code.{CodeValue}
use Rattle.esm_values.specs.declared.value.PromiseId.{PromiseId}
use Rattle.esm_eval.specs.Nodes.{BodyCalls}
use Rattle.esm_eval.specs.Evaluation.{Evaluation}
use Rattle.esm_eval.specs.Evaluate.{Evaluates}
use Rattle.esm_eval.specs.BodyEnd.{Fulfills}
use Rattle.esm_eval.specs.declared.walk.EvalEnd.{EvalEnd}
use Rattle.esm_eval.specs.declared.walk.EvalEnd.TheVariants as ends

-- what evaluation reads and writes of a world of the code
abbrev pub CodeEvaluation : Type 0 → Type 0
CodeEvaluation W = Evaluation ℕ CodeValue W

abbrev pub CodeCalls : Type 0 → Type 0 → Type 1
CodeCalls W S = BodyCalls ℕ CodeValue W S

-- modules are named by their ids
abbrev pub numbered : {W : Type 0} → CodeEvaluation W → CodeEvaluation W
numbered E = record E { same = nat_eq }

module _ {W S : Type 0} (E : CodeEvaluation W) (acts : CodeCalls W S) where
  -- an evaluation of m gives its promise, or a call for a body stopped
  abbrev pub EvaluatesAs : W → ℕ → Result PromiseId (EvalEnd S) → W → Type 0
  EvaluatesAs w m (Ok p) after = Evaluates E acts w m (Ok p.0) after
  EvaluatesAs w m (Err (ends.Stopped why)) after = Evaluates E acts w m (Err why) after
  EvaluatesAs w m (Err ends.Memory) after = Unit {0}

  -- what follows where the body of m has ended
  abbrev pub FulfillsAs : W → ℕ → Result (Unit {0}) (EvalEnd S) → W → Type 0
  FulfillsAs w m (Ok u) after = Fulfills E acts w m (Ok tt) after
  FulfillsAs w m (Err (ends.Stopped why)) after = Fulfills E acts w m (Err why) after
  FulfillsAs w m (Err ends.Memory) after = Unit {0}
