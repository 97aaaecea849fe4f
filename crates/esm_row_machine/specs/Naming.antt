-- What private functions do with the names of functions and with handlers, and what they throw.
use Rattle.std.specs.Prelude.{◌≡◌, ℕ, Bool, true, false, List, [], ◌∷◌, ◌++◌, Option, Some, None, Result, Ok, Err, slice_get, slice_set, codes}
use Rattle.std.specs.Borrow.{Bor}
use Rattle.esm_env.specs.Modules.{Modules}
use Rattle.esm_values.specs.declared.errors.FaultKind.{FaultKind}
use Rattle.esm_values.specs.declared.errors.FaultKind.TheVariants as kinds
use Rattle.esm_values.specs.declared.value.Value.{Value}
use Rattle.esm_rewriting.specs.State.{State, Importing}
use Rattle.esm_rewriting.specs.declared.stop.Stop.{Stop}
use Rattle.esm_rewriting.specs.declared.stop.Stop.TheVariants as stops
use Rattle.esm_row_machine.specs.Outside.{Faults}
use Rattle.esm_row_machine.specs.Changes.{Put, Popped}
use Rattle.esm_row_machine.specs.declared.machine.Handler.{Handler}
use Rattle.esm_row_machine.specs.declared.turn.Turn.{Turn}
use Rattle.esm_row_machine.specs.declared.turn.Turn.TheVariants as turn

-- so many operations are left, and this holds; where memory ran out nothing is said
abbrev pub GoesTo : ℕ → Type 0 → Result Turn Stop → Type 0
GoesTo left P (Ok (turn.On n)) = (n ≡ left) × P
GoesTo left P (Ok (turn.Calls count n)) = ⊥
GoesTo left P (Ok (turn.Returns v)) = ⊥
GoesTo left P (Ok (turn.Throws v)) = ⊥
GoesTo left P (Err (stops.Limit why)) = ⊥
GoesTo left P (Err stops.Memory) = Unit {0}

-- the value of the name at this place is this one, if it has one
abbrev pub FoundAt : List (Option Value) → ℕ → (Option Value → Result Turn Stop → Type 0) → Result Turn Stop → Type 0
FoundAt ns at P (Ok t) = (v : Option Value) × (slice_get ns at ≡ Some v) × P v (Ok t)
FoundAt ns at P (Err (stops.Limit why)) = (v : Option Value) × (slice_get ns at ≡ Some v) × P v (Err (stops.Limit why))
FoundAt ns at P (Err stops.Memory) = Unit {0}

-- the value on top was taken, and the name at this place is set to it
abbrev pub SetsAt : List Value → List (Option Value) → ℕ → ℕ → Result Turn Stop → List Value → List (Option Value) → Type 0
SetsAt vs ns at left result us late = Popped vs (λ items v r. GoesTo left ((us ≡ items) × (late ≡ slice_set ns at (Some v))) r) result

-- what was caught is the first name of its handler, where it is named
abbrev pub caught_by : Bool → Value → List (Option Value)
caught_by true v = Some v ∷ []
caught_by false v = []

abbrev pub handler_with : ℕ → ℕ → Handler
handler_with left names = record { left = left; names = names }

-- the innermost handler was this one
abbrev pub WithoutLast : List Handler → List Handler → Type 0
WithoutLast hs late = (last : Handler) × (hs ≡ late ++ last ∷ [])

module _ {W S : Type 0} (state : W → State ℕ S) (modules : S → Modules ℕ) (linked : S → ℕ → Bool) (begins : Importing ℕ S)
    (Ready : W → Type 0) (Keeps : W → W → Type 0) where
  -- a new error is thrown
  abbrev pub ThrowsFault : W → FaultKind → List ℕ → Result Turn Stop → W → Type 0
  ThrowsFault w kind message (Ok (turn.On n)) after = ⊥
  ThrowsFault w kind message (Ok (turn.Calls count n)) after = ⊥
  ThrowsFault w kind message (Ok (turn.Returns v)) after = ⊥
  ThrowsFault w kind message (Ok (turn.Throws v)) after = Faults state modules linked begins Ready Keeps w kind message (Ok v) after
  ThrowsFault w kind message (Err stop) after = Faults state modules linked begins Ready Keeps w kind message (Err stop) after

  -- whose message is a name and these words
  abbrev pub ThrowsNamed : W → FaultKind → Option (Bor (List ℕ)) → List ℕ → Result Turn Stop → W → Type 0
  ThrowsNamed w kind None words result after = result ≡ Err stops.Memory
  ThrowsNamed w kind (Some name) words result after = ThrowsFault w kind (name.now ++ words) result after

  -- the value of a name is put on top, where it has one
  abbrev pub PutsFound : W → List Value → Option Value → Option (Bor (List ℕ)) → ℕ → Result Turn Stop → W → List Value → Type 0
  PutsFound w vs (Some v) name left result after us = (after ≡ w) × Put vs v left result us
  PutsFound w vs None name left result after us =
      (us ≡ vs) × ThrowsNamed w kinds.ReferenceError name (codes " is not initialized") result after

  -- a name is written where it is set, and is no constant
  abbrev pub WritesWhere : Bool → Bool → W → List Value → List (Option Value) → ℕ → Option (Bor (List ℕ)) → ℕ → Result Turn Stop → W
      → List Value → List (Option Value) → Type 0
  WritesWhere false constant w vs ns at name left result after us late =
      (us ≡ vs) × (late ≡ ns) × ThrowsNamed w kinds.ReferenceError name (codes " is not initialized") result after
  WritesWhere true true w vs ns at name left result after us late =
      (us ≡ vs) × (late ≡ ns) × ThrowsNamed w kinds.TypeError name (codes " is constant") result after
  WritesWhere true false w vs ns at name left result after us late = (after ≡ w) × SetsAt vs ns at left result us late
