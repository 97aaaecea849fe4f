-- A call throws a new error, and a function begins and its caller waits: what private functions say.
use Rattle.std.proofs.Common.{◌≡◌, ℕ, Bool, List, [], ◌∷◌, ◌++◌, Some, sym, subst}
use Rattle.std.specs.Prelude.{Result, Ok, Err}
use Rattle.esm_env.specs.Modules.{Modules}
use Rattle.esm_values.specs.Code.{CodeValue}
use Rattle.esm_values.specs.declared.errors.FaultKind.{FaultKind}
use Rattle.esm_values.specs.declared.value.FuncId.{FuncId}
use Rattle.esm_values.specs.declared.value.Value.{Value}
use Rattle.esm_rewriting.specs.State.{State, Importing}
use Rattle.esm_rewriting.specs.declared.stop.Stop.{Stop}
use Rattle.esm_rewriting.specs.declared.stop.Stop.TheVariants as stops
use Rattle.esm_rows.specs.declared.row.Row.{Row}
use Rattle.esm_row_machine.specs.Outside.{Faults}
use Rattle.esm_row_machine.specs.Tables.{row_in}
use Rattle.esm_row_machine.specs.Entering.{EntersAs, WaitsFor, Begun, BegunBy}
use Rattle.esm_row_machine.specs.Follows.{Flies, Lands}
use Rattle.esm_row_machine.specs.Calling.{Refuses}
use Rattle.esm_row_machine.specs.declared.machine.Frame.{Frame}
use Rattle.esm_row_machine.specs.declared.machine.Machine.{Machine}
use Rattle.esm_row_machine.specs.declared.rows.Rows.{Rows}
use Rattle.esm_row_machine.specs.declared.runs.Next.{Next}
use Rattle.esm_row_machine.specs.declared.runs.Next.TheVariants as next
use Rattle.esm_row_machine.proofs.Followed.{on_ok}

-- ---- a new error

module _ {W S : Type 0} (state : W → State ℕ S) (modules : S → Modules ℕ) (linked : S → ℕ → Bool) (begins : Importing ℕ S)
    (Ready : W → Type 0) (Keeps : W → W → Type 0) (owns : S → ℕ → List (List ℕ)) (w : W) (s : Machine) (f : Frame) (kind : FaultKind) (message : List ℕ) where
  pub refuses : (v : Value) (thrown : W) (late : Machine) (result : Result Next Stop) → Faults state modules linked begins Ready Keeps w kind message (Ok v) thrown
      → Lands state modules linked begins Ready Keeps owns thrown s f v result late → Refuses state modules linked begins Ready Keeps owns w s f kind message result thrown late
  refuses v thrown late result faults lands ready w0 h ws body flies =
      let t = faults ready in
      (lands w0 h ws body (subst (λ (u : CodeValue). Flies state modules linked begins Ready Keeps owns w0 h ws body f u thrown s) (sym t.0) (flies thrown t.1 t.2)), on_ok result t.2.keeps)

  pub refuse_stops : (stop : Stop) (thrown : W) (late : Machine) → Faults state modules linked begins Ready Keeps w kind message (Err stop) thrown → Refuses state modules linked begins Ready Keeps owns w s f kind message (Err stop) thrown late
  refuse_stops (stops.Limit why) thrown late faults = absurd faults
  refuse_stops stops.Memory thrown late faults = λ ready w0 h ws body flies. (tt, tt)

-- ---- a function that begins

module _ (s mid : Machine) (rows : Rows) (f : Frame) (function : FuncId) (count : ℕ) (row : Row) (there : row_in rows function.module.0 function.index ≡ Some row)
    (g : Frame) (enters : EntersAs s function row count g mid) (late : Machine) (operands : late.operands.items ≡ mid.operands.items) (names : late.names.items ≡ mid.names.items)
    (handlers : late.handlers.items ≡ mid.handlers.items) where
  begun_now : late.frames.items ≡ mid.frames.items ++ f ∷ [] → Begun s rows f function count g late
  begun_now frames = record { row = row; there = there; entered = record { mid = mid; enters = enters; operands = operands; names = names; handlers = handlers; frames = frames } }

  pub begun_by : (result : Result Next Stop) → WaitsFor mid.frames.items f g result late.frames.items → BegunBy s rows f function count result late
  begun_by (Ok (next.Goes q)) p = subst (λ (r : Frame). Begun s rows f function count r late) (sym p.0) (begun_now p.1)
  begun_by (Ok (next.Gave v)) p = absurd p
  begun_by (Ok (next.Thrown v)) p = absurd p
  begun_by (Err (stops.Limit why)) p = absurd p
  begun_by (Err stops.Memory) p = tt
