-- What private functions do with the operands where they ask the world.
use Rattle.std.specs.Prelude.{◌≡◌, ℕ, List, ◌++◌, length, Option, Some, None, Result, Ok, Err}
use Rattle.std.specs.Borrow.{Bor}
use Rattle.esm_base.specs.declared.memory.Memory.{Memory}
use Rattle.esm_values.specs.declared.value.Value.{Value}
use Rattle.esm_expr_eval.specs.declared.world.Out.{Out}
use Rattle.esm_rewriting.specs.declared.stop.Stop.{Stop}
use Rattle.esm_rewriting.specs.declared.stop.Stop.TheVariants as stops
use Rattle.esm_row_machine.specs.Changes.{GoesWith, Put, Threw, Took}
use Rattle.esm_row_machine.specs.declared.turn.Turn.{Turn}
use Rattle.esm_row_machine.specs.declared.turn.Turn.TheVariants as turn

-- with this name of the row's table; where there is none, memory is told to have run out
abbrev pub WithName : Option (Bor (List ℕ)) → (List ℕ → Type 0) → Result Turn Stop → Type 0
WithName None P result = result ≡ Err stops.Memory
WithName (Some name) P result = P name.now

-- what the world told stands above these operands, or is thrown
pub record Heard (vs : List Value) (Says : Result Out Stop → Type 0) (left : ℕ) (result : Result Turn Stop) (us : List Value) : Type 0 where
  pub told : Result Out Stop
  pub says : Says told
  pub took : Took vs told left result us

-- a value that was put on top, or one to be thrown, as what an operation comes to behind which so many are left
abbrev pub turn_of : ℕ → Result (Option Value) Stop → Result Turn Stop
turn_of left (Ok None) = Ok (turn.On left)
turn_of left (Ok (Some v)) = Ok (turn.Throws v)
turn_of left (Err stop) = Err stop

-- the same, of a call that isn't told how many are left: it holds however many are
abbrev pub HeardOrThrown : List Value → (Result Out Stop → Type 0) → Result (Option Value) Stop → List Value → Type 0
HeardOrThrown vs Says result us = (left : ℕ) → Heard vs Says left (turn_of left result) us

-- a value stands above these operands, unless memory ran out
abbrev pub PutIfOk : List Value → Result Value Memory → ℕ → Result Turn Stop → List Value → Type 0
PutIfOk vs (Ok v) left result us = Put vs v left result us
PutIfOk vs (Err e) left result us = result ≡ Err stops.Memory

-- the value that the world told does
pub record HeardValue (vs : List Value) (Says : Result Value Memory → Type 0) (left : ℕ) (result : Result Turn Stop) (us : List Value)
    : Type 0 where
  pub told : Result Value Memory
  pub says : Says told
  pub put : PutIfOk vs told left result us

-- with these operands it goes on behind a write, or throws what the write throws
abbrev pub Wrote : List Value → Result (Option Value) Stop → ℕ → Result Turn Stop → List Value → Type 0
Wrote vs (Ok None) left result us = GoesWith vs left result us
Wrote vs (Ok (Some v)) left result us = Threw vs v result us
Wrote vs (Err stop) left result us = result ≡ Err stop

-- a write of the world came to that
pub record HeardWrite (vs : List Value) (Says : Result (Option Value) Stop → Type 0) (left : ℕ) (result : Result Turn Stop)
    (us : List Value) : Type 0 where
  pub told : Result (Option Value) Stop
  pub says : Says told
  pub wrote : Wrote vs told left result us

-- so many values were taken first; where memory ran out nothing is said
abbrev pub PoppedMany : List Value → ℕ → (List Value → List Value → Result Turn Stop → Type 0) → Result Turn Stop → Type 0
PoppedMany vs n P (Ok t) = (items : List Value) × (us : List Value) × (vs ≡ items ++ us) × (length us ≡ n) × P items us (Ok t)
PoppedMany vs n P (Err (stops.Limit why)) = (items : List Value) × (us : List Value) × (vs ≡ items ++ us) × (length us ≡ n)
    × P items us (Err (stops.Limit why))
PoppedMany vs n P (Err stops.Memory) = Unit {0}
