-- How calls begin, and how they are refused.
use Rattle.std.specs.Prelude.{◌≡◌, ℕ, Bool, List, length, Result, OnOk}
use Rattle.esm_env.specs.Modules.{Modules}
use Rattle.esm_values.specs.Errors.{fault}
use Rattle.esm_values.specs.declared.errors.FaultKind.{FaultKind}
use Rattle.esm_values.specs.declared.value.FuncId.{FuncId}
use Rattle.esm_values.specs.declared.value.Value.{Value}
use Rattle.esm_rewriting.specs.State.{State, Importing, new_error, with_error}
use Rattle.esm_rewriting.specs.Segment.{Active}
use Rattle.esm_rewriting.specs.declared.stop.Stop.{Stop}
use Rattle.esm_row_machine.specs.Functions.{Here, Waiter}
use Rattle.esm_row_machine.specs.Outside.{Well}
use Rattle.esm_row_machine.specs.Turns.{Linked}
use Rattle.esm_row_machine.specs.Entering.{IsStacked, BegunBy, BeginsFirst}
use Rattle.esm_row_machine.specs.Follows.{Flies, Followed, RowsFit}
use Rattle.esm_row_machine.specs.declared.machine.Frame.{Frame}
use Rattle.esm_row_machine.specs.declared.machine.Machine.{Machine}
use Rattle.esm_row_machine.specs.declared.rows.Rows.{Rows}
use Rattle.esm_row_machine.specs.declared.runs.Next.{Next}

module _ {W S : Type 0} (state : W → State ℕ S) (modules : S → Modules ℕ) (linked : S → ℕ → Bool) (begins : Importing ℕ S)
    (Ready : W → Type 0) (Keeps : W → W → Type 0) (owns : S → ℕ → List (List ℕ)) where
  -- a row of this module was made, or not: each row in the table is that of its function, if it was so before
  abbrev pub IsMade : W → Rows → ℕ → Rows → Type 0
  IsMade w rows m tables = Ready w → Linked state modules linked begins Ready Keeps owns w m
      → RowsFit state modules linked begins Ready Keeps owns w rows → RowsFit state modules linked begins Ready Keeps owns w tables

  -- a function begins, whose row was made, and its caller waits
  abbrev pub BeginsIn : W → Machine → Rows → Frame → FuncId → ℕ → Result Next Stop → Machine → Rows → Type 0
  BeginsIn w s rows f function count result late tables = BegunBy s tables f function count result late
      × OnOk result (IsMade w rows function.module.0 tables)

  -- a new error is thrown where the throw of one is under way in this function
  abbrev pub Refuses : W → Machine → Frame → FaultKind → List ℕ → Result Next Stop → W → Machine → Type 0
  Refuses w s f kind message result after late = Ready w → (w0 : W) (h : Here) (ws : List Waiter) (body : Active ℕ)
      → ((thrown : W) → state thrown ≡ with_error (state w) (fault kind message) → Well state modules linked begins Ready Keeps w thrown
      → Flies state modules linked begins Ready Keeps owns w0 h ws body f (new_error (state w)) thrown s)
      → Followed state modules linked begins Ready Keeps owns w0 h ws body result after late × OnOk result (Keeps w after)

  -- the outermost function begins with these values, and its row was made
  pub record BeginsFirstBy (w : W) (rows : Rows) (function : FuncId) (vs : List Value) (g : Frame) (late : Machine) (tables : Rows)
      : Type 0 where
    pub stack : Machine
    pub stacked : IsStacked function vs stack
    pub first : BeginsFirst stack tables function (length vs) g late
    pub made : IsMade w rows function.module.0 tables
