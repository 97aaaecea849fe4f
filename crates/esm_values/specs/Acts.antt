-- What an expression asks of the world around it, and what is answered.
use Rattle.std.specs.Prelude.{ℕ, List}
use Rattle.esm_values.specs.Completion.{Completion}
use Rattle.esm_values.specs.declared.errors.FaultKind.{FaultKind}

-- a call on the world
pub data Act (V : Type 0) : Type 0 where
  -- the value of a name. ECMA-262, ResolveBinding and GetValue
  Read : (name : List ℕ) → Act V
  -- the member of a value with a name. ECMA-262, GetValue of a property reference
  Member : (of : V) (name : List ℕ) → Act V
  -- the display text of a value
  Display : (of : V) → Act V
  -- prints the values as one line
  Print : (vs : List V) → Act V
  -- makes a new error value
  Fault : (kind : FaultKind) (message : List ℕ) → Act V
  -- takes so many steps
  Step : (steps : ℕ) → Act V
  -- begins an import() of the value, and gives its promise. ECMA-262, EvaluateImportCall
  Import : (of : V) → Act V

-- the answer of each
abbrev pub AnswerTo : {V : Type 0} → Act V → Type 0
AnswerTo {V} (Read name) = Completion V
AnswerTo {V} (Member of name) = Completion V
AnswerTo {V} (Display of) = List ℕ
AnswerTo {V} (Print vs) = Unit {0}
AnswerTo {V} (Fault kind message) = V
AnswerTo {V} (Step steps) = Unit {0}
AnswerTo {V} (Import of) = V
