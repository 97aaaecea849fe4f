-- What the single steps say that follow the end of a body: those of the trait Late.
use Rattle.std.specs.Prelude.{◌≡◌, ℕ, Bool, true, false, nat_eq, List, Result, Ok, Err, ⊤}
use Rattle.esm_base.specs.Lists.{is_in}
use Rattle.esm_eval.specs.declared.walk.EvalEnd.{EvalEnd}
use Rattle.esm_eval.specs.declared.walk.EvalEnd.TheVariants as ends
use Rattle.esm_eval.specs.Nodes.{Evaluated}
use Rattle.esm_eval.specs.Evaluation.{phase, waiters}
use Rattle.esm_eval.specs.Evaluate.{Ends, Throws, Stops, Executes, ExecutesAsync}
use Rattle.esm_eval.specs.BodyEnd.{finish}
use Rattle.esm_eval.specs.Begins.{HaveBegunOnce}
use Rattle.esm_eval.specs.Calls.{CodeEvaluation, CodeCalls, numbered}
use Rattle.esm_values.specs.Code.{CodeValue, value_of}
use Rattle.esm_values.specs.declared.value.Ran.{Ran}
use Rattle.esm_values.specs.declared.value.Ran.TheVariants as r

-- from w to v the same modules are linked, and what was known is known still
pub record Stays {W : Type 0} (linked : W → ℕ → Bool) (knows : W → CodeValue → Type 0) (w v : W) : Type 0 where
  pub link : (y : ℕ) → linked v y ≡ linked w y
  pub know : (u : CodeValue) → knows w u → knows v u

-- these modules are linked
abbrev pub EachIsLinked : {W : Type 0} → (W → ℕ → Bool) → W → List ℕ → Type 0
EachIsLinked linked w xs = (y : ℕ) → is_in nat_eq xs y ≡ true → linked w y ≡ true

-- what a body threw is known
abbrev pub RanKnown : {W : Type 0} → (W → CodeValue → Type 0) → Ran → W → Type 0
RanKnown knows r.Normal v = ⊤
RanKnown knows (r.Thrown e) v = knows v (value_of e)

-- where a body has run, what it leaves fits, and what it threw is known. After a stop or want of memory nothing is said
abbrev pub RunFits : {W X : Type 0} → (W → Type 0) → (W → CodeValue → Type 0) → Result Ran X → W → Type 0
RunFits fits knows (Ok ran) v = fits v × RanKnown knows ran v
RunFits fits knows (Err end) v = ⊤

-- what a test says of P
abbrev pub Says : Bool → Type 0 → Type 0
Says true P = P
Says false P = P → ⊥

abbrev pub IsEvaluated : {W : Type 0} → CodeEvaluation W → W → ℕ → Type 0
IsEvaluated E w x = phase E w x ≡ Evaluated

abbrev pub SameWaiters : {W : Type 0} → CodeEvaluation W → W → W → Type 0
SameWaiters E w v = (y : ℕ) → waiters E v y ≡ waiters E w y

-- m is done, and before that evaluation was between two calls
abbrev pub IsFinished : {W : Type 0} → CodeEvaluation W → ℕ → W → Type 0
IsFinished {W} E m v = (w : W) × HaveBegunOnce (numbered E) w × (v ≡ finish (numbered E) w m)

-- a call for a body that awaits, but where memory ran out
abbrev pub Begins : {W S : Type 0} → CodeEvaluation W → CodeCalls W S → W → ℕ → Result (Unit {0}) (EvalEnd S) → W → Type 0
Begins E acts w x (Ok u) v = ExecutesAsync (numbered E) acts w x Ends v
Begins E acts w x (Err (ends.Stopped why)) v = ExecutesAsync (numbered E) acts w x (Stops why) v
Begins E acts w x (Err ends.Memory) v = Unit {0}

-- a call for any other
abbrev pub Runs : {W S : Type 0} → CodeEvaluation W → CodeCalls W S → W → ℕ → Result Ran (EvalEnd S) → W → Type 0
Runs E acts w x (Ok r.Normal) v = Executes (numbered E) acts w x Ends v
Runs E acts w x (Ok (r.Thrown e)) v = Executes (numbered E) acts w x (Throws (value_of e)) v
Runs E acts w x (Err (ends.Stopped why)) v = Executes (numbered E) acts w x (Stops why) v
Runs E acts w x (Err ends.Memory) v = Unit {0}
