-- What private functions do with the operands.
use Rattle.std.specs.Prelude.{◌≡◌, ℕ, Bool, true, false, List, [], ◌∷◌, ◌++◌, Option, Some, None, Result, Ok, Err, slice_get}
use Rattle.std.specs.Borrow.{Bor}
use Rattle.esm_values.specs.declared.value.Value.{Value}
use Rattle.esm_values.specs.declared.value.Value.TheVariants as values
use Rattle.esm_expr_eval.specs.declared.world.Out.{Out}
use Rattle.esm_expr_eval.specs.declared.world.Out.TheVariants as out
use Rattle.esm_rewriting.specs.declared.stop.Stop.{Stop}
use Rattle.esm_rewriting.specs.declared.stop.Stop.TheVariants as stops
use Rattle.esm_row_machine.specs.declared.machine.Machine.{Machine}
use Rattle.esm_row_machine.specs.declared.turn.Turn.{Turn}
use Rattle.esm_row_machine.specs.declared.turn.Turn.TheVariants as turn

-- nothing but the operands has changed, and these are they
pub record OperandsAre (s : Machine) (vs : List Value) (late : Machine) : Type 0 where
  pub operands : late.operands.items ≡ vs
  pub names : late.names.items ≡ s.names.items
  pub handlers : late.handlers.items ≡ s.handlers.items
  pub frames : late.frames.items ≡ s.frames.items

-- these operands are there, and so many operations are left
abbrev pub GoesWith : List Value → ℕ → Result Turn Stop → List Value → Type 0
GoesWith vs left (Ok (turn.On n)) us = (n ≡ left) × (us ≡ vs)
GoesWith vs left (Ok (turn.Calls count n)) us = ⊥
GoesWith vs left (Ok (turn.Returns v)) us = ⊥
GoesWith vs left (Ok (turn.Throws v)) us = ⊥
GoesWith vs left (Err (stops.Limit why)) us = ⊥
GoesWith vs left (Err stops.Memory) us = Unit {0}

-- a value stands above these operands
abbrev pub Put : List Value → Value → ℕ → Result Turn Stop → List Value → Type 0
Put vs v left result us = GoesWith (vs ++ v ∷ []) left result us

abbrev pub PutText : List Value → Option (Bor (List ℕ)) → ℕ → Result Turn Stop → List Value → Type 0
PutText vs None left result us = result ≡ Err stops.Memory
PutText vs (Some t) left result us = Put vs (values.Text t.now) left result us

-- this value is thrown, with these operands still there
abbrev pub Threw : List Value → Value → Result Turn Stop → List Value → Type 0
Threw vs v (Ok (turn.On n)) us = ⊥
Threw vs v (Ok (turn.Calls count n)) us = ⊥
Threw vs v (Ok (turn.Returns u)) us = ⊥
Threw vs v (Ok (turn.Throws u)) us = (u ≡ v) × (us ≡ vs)
Threw vs v (Err (stops.Limit why)) us = ⊥
Threw vs v (Err stops.Memory) us = Unit {0}

-- what the world told stands above these operands, or is thrown
abbrev pub Took : List Value → Result Out Stop → ℕ → Result Turn Stop → List Value → Type 0
Took vs (Ok (out.Value v)) left result us = Put vs v left result us
Took vs (Ok (out.Thrown v)) left result us = Threw vs v result us
Took vs (Err stop) left result us = result ≡ Err stop

-- the value on top was taken first; where memory ran out nothing is said
abbrev pub Popped : List Value → (List Value → Value → Result Turn Stop → Type 0) → Result Turn Stop → Type 0
Popped vs P (Ok t) = (items : List Value) × (v : Value) × (vs ≡ items ++ v ∷ []) × P items v (Ok t)
Popped vs P (Err (stops.Limit why)) = (items : List Value) × (v : Value) × (vs ≡ items ++ v ∷ []) × P items v (Err (stops.Limit why))
Popped vs P (Err stops.Memory) = Unit {0}

-- so were two
abbrev pub PoppedTwo : List Value → (List Value → Value → Value → Result Turn Stop → Type 0) → Result Turn Stop → Type 0
PoppedTwo vs P (Ok t) = (items : List Value) × (u : Value) × (v : Value) × (vs ≡ items ++ u ∷ v ∷ []) × P items u v (Ok t)
PoppedTwo vs P (Err (stops.Limit why)) = (items : List Value) × (u : Value) × (v : Value) × (vs ≡ items ++ u ∷ v ∷ [])
    × P items u v (Err (stops.Limit why))
PoppedTwo vs P (Err stops.Memory) = Unit {0}

-- it stays, and so many operations are left, or it goes, and so many
abbrev pub Decides : Bool → List Value → Value → ℕ → ℕ → Result Turn Stop → List Value → Type 0
Decides true vs v skip left result us = Put vs v skip result us
Decides false vs v skip left result us = GoesWith vs left result us

-- one of two places
abbrev pub Chooses : Bool → List Value → ℕ → ℕ → Result Turn Stop → List Value → Type 0
Chooses true vs skip left result us = GoesWith vs left result us
Chooses false vs skip left result us = GoesWith vs skip result us

-- it is returned
abbrev pub Gives : List Value → Value → Result Turn Stop → List Value → Type 0
Gives vs v result us = (result ≡ Ok (turn.Returns v)) × (us ≡ vs)

abbrev pub IsTextAt : List (List ℕ) → ℕ → Option (Bor (List ℕ)) → Type 0
IsTextAt texts k None = Unit {0}
IsTextAt texts k (Some t) = slice_get texts k ≡ Some t.now
