-- What parts of what follows the end of a body come to.
use Rattle.std.specs.Prelude.{◌≡◌, ◌⊎◌, ℕ, true, List, ◌∷◌, Result, Ok, Err}
use Rattle.esm_eval.specs.declared.walk.EvalEnd.{EvalEnd}
use Rattle.esm_eval.specs.declared.walk.EvalEnd.TheVariants as ends
use Rattle.esm_eval.specs.BodyEnd.{GoOn, Rejects, finish}
use Rattle.esm_eval.specs.Calls.{CodeEvaluation, CodeCalls, numbered}
use Rattle.esm_values.specs.Code.{value_of}
use Rattle.esm_values.specs.declared.value.Ran.{Ran}
use Rattle.esm_values.specs.declared.value.Ran.TheVariants as r

-- no body has begun but that of x
abbrev pub BeginsOnly : {W : Type 0} → CodeEvaluation W → W → ℕ → W → Type 0
BeginsOnly E w x v = (y : ℕ) → E.begun v y ≡ true → (E.begun w y ≡ true) ⊎ (y ≡ x)

-- what the end of the body of a module that doesn't await does, but where memory ran out
abbrev pub IsEndOf : {W S : Type 0} → CodeEvaluation W → W → ℕ → Ran → Result (Unit {0}) (EvalEnd S) → W → Type 0
IsEndOf E w x r.Normal (Ok u) v = v ≡ finish (numbered E) w x
IsEndOf E w x (r.Thrown e) (Ok u) v = Rejects (numbered E) w x (value_of e) v
IsEndOf E w x ran (Err (ends.Stopped why)) v = ⊥
IsEndOf E w x ran (Err ends.Memory) v = Unit {0}

-- a module that is ready goes on: whatever the others come to, it comes to behind this one
abbrev pub GoesOn : {W S : Type 0} → CodeEvaluation W → CodeCalls W S → W → ℕ → Result (Unit {0}) (EvalEnd S) → W → Type 0
GoesOn {W} {S} E acts w x (Ok u) v = (xs : List ℕ) (end : Result (Unit {0}) S) (after : W)
    → GoOn (numbered E) acts v xs end after → GoOn (numbered E) acts w (x ∷ xs) end after
GoesOn E acts w x (Err (ends.Stopped why)) v = (xs : List ℕ) → GoOn (numbered E) acts w (x ∷ xs) (Err why) v
GoesOn E acts w x (Err ends.Memory) v = Unit {0}
