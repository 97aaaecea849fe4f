-- Laws of the definitions.
use Rattle.std.specs.Prelude.{◌≡◌, ◌⊎◌, ℕ, Bool, true, false, ◌&&◌, ◌||◌, nat_eq, List, [], Some, is_some}
use Rattle.esm_values.specs.Value.{Value, Namespace, same_value}
use Rattle.esm_values.specs.Errors.{Errors}
use Rattle.esm_values.specs.Display.{simple_text}
use Rattle.esm_values.specs.Operators as operators
use Rattle.esm_values.specs.Operators.{Look, is_true, is_text, shown, joined}

-- === holds exactly between equal values
pub record SameIsEqual : Type 0 where
  pub equal : (v w : Value ℕ) → same_value nat_eq v w ≡ true → v ≡ w
  pub same : (v : Value ℕ) → same_value nat_eq v v ≡ true

-- each value has one display text, but for a namespace, whose keys are needed
abbrev pub DisplaysOne : Type 0
DisplaysOne = (name_of : ℕ → ℕ → List ℕ) (errors : Errors) (v : Value ℕ)
    → ((text : List ℕ) × (simple_text name_of errors v ≡ Some text)) ⊎ ((m : ℕ) × (v ≡ Namespace m))

-- false are undefined, the truth value false and the empty text, and nothing else
pub record FalsyAreThree : Type 0 where
  pub undefined : is_true operators.Undefined ≡ false
  pub truth : (b : Bool) → is_true (operators.Truth b) ≡ b
  pub empty : is_true (operators.Text []) ≡ false
  pub others : (l : Look) → is_true l ≡ false
      → (l ≡ operators.Undefined) ⊎ (l ≡ operators.Truth false) ⊎ (l ≡ operators.Text [])

-- a sum has a text exactly where one operand is a text and both have one
abbrev pub SumsTexts : Type 0
SumsTexts = (l m : Look) → is_some (joined l m) ≡ (is_some (shown l) && is_some (shown m) && (is_text l || is_text m))
