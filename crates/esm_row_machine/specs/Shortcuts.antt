-- What is done where the frame of the function that runs is changed in its place: calls of functions whose rows are there, and ends
-- of functions for which others wait.
use Rattle.std.specs.Prelude.{◌≡◌, ◌<◌, ◌≤◌, ℕ, ◌+◌, Bool, List, length, slice_get, Option, Some, None, Result, Ok, Err, IfOk}
use Rattle.std.specs.Borrow.{Bor}
use Rattle.esm_base.specs.declared.limits.TheConstants.{MAX_CALL_DEPTH}
use Rattle.esm_env.specs.Modules.{Modules}
use Rattle.esm_values.specs.declared.value.FuncId.{FuncId}
use Rattle.esm_values.specs.declared.value.Value.{Value}
use Rattle.esm_rewriting.specs.State.{State, Importing}
use Rattle.esm_rewriting.specs.Segment.{Active, Ended}
use Rattle.esm_rewriting.specs.declared.stop.Stop.{Stop}
use Rattle.esm_rewriting.specs.declared.stop.Stop.TheVariants as stops
use Rattle.esm_rows.specs.declared.op.Op.{Op}
use Rattle.esm_rows.specs.declared.op.Op.TheVariants as ops
use Rattle.esm_rows.specs.declared.row.Row.{Row}
use Rattle.esm_row_machine.specs.Functions.{Here, Waiter}
use Rattle.esm_row_machine.specs.Tables.{row_in}
use Rattle.esm_row_machine.specs.Entering.{Entered, IsCallee}
use Rattle.esm_row_machine.specs.Asking.{turn_of}
use Rattle.esm_row_machine.specs.Turns.{Stands, IsRowOf, Turned, TurnsOn}
use Rattle.esm_row_machine.specs.Follows.{GivenTo, HaltsAll, Proceeds, RowsFit, SegmentOf}
use Rattle.esm_row_machine.specs.declared.machine.Frame.{Frame}
use Rattle.esm_row_machine.specs.declared.machine.Machine.{Machine}
use Rattle.esm_row_machine.specs.declared.rows.Rows.{Rows}
use Rattle.esm_row_machine.specs.declared.runs.Next.{Next}
use Rattle.esm_row_machine.specs.declared.runs.Next.TheVariants as next
use Rattle.esm_row_machine.specs.declared.turn.Turn.{Turn}
use Rattle.esm_row_machine.specs.declared.turn.Turn.TheVariants as turn

-- the same function, with so many operations left
abbrev pub at_left : Frame → ℕ → Frame
at_left f n = record f { left = n }

-- ---- the row of the function that runs

-- it stands in the table, and has at least as many operations as are left
pub record HasRow (rows : Rows) (f : Frame) (row : Row) : Type 0 where
  pub there : row_in rows f.at.0 f.function ≡ Some row
  pub within : f.left ≤ length row.ops.items

abbrev pub IsRowHere : Rows → Frame → Option (Bor Row) → Type 0
IsRowHere rows f None = Unit {0}
IsRowHere rows f (Some r) = HasRow rows f r.now

-- nothing was done
pub record IsUndone {W : Type 0} (w : W) (s : Machine) (f : Frame) (after : W) (late : Machine) (g : Frame) : Type 0 where
  pub world : after ≡ w
  pub stacks : late ≡ s
  pub frame : g ≡ f

-- the function that runs has its row, or nothing was done
abbrev pub IsTold : {W : Type 0} → Rows → W → Machine → Frame → Result (Option (Bor Row)) Stop → W → Machine → Frame → Type 0
IsTold rows w s f (Ok (Some r)) after late g = HasRow rows g r.now
IsTold rows w s f (Ok None) after late g = IsUndone w s f after late g
IsTold rows w s f (Err stop) after late g = Unit {0}

-- a row that is there, as what a call, a return or an end gives, which may have done nothing
abbrev pub some_row : Result (Bor Row) Stop → Result (Option (Bor Row)) Stop
some_row (Ok r) = Ok (Some r)
some_row (Err stop) = Err stop

-- the same as what follows an operation, where this is the frame of its function
abbrev pub next_of : Frame → Result (Bor Row) Stop → Result Next Stop
next_of g (Ok r) = Ok (next.Goes g)
next_of g (Err stop) = Err stop

-- a turn that leads no further than so many operations
abbrev pub LeadsOn : ℕ → Result Turn Stop → Type 0
LeadsOn left (Ok (turn.On n)) = n ≤ left
LeadsOn left (Ok (turn.Calls count n)) = Unit {0}
LeadsOn left (Ok (turn.Returns v)) = Unit {0}
LeadsOn left (Ok (turn.Throws v)) = Unit {0}
LeadsOn left (Err stop) = Unit {0}

-- it is this one
abbrev pub IsOnward : ℕ → Turn → Result Turn Stop → Type 0
IsOnward left t (Ok u) = (u ≡ t) × LeadsOn left (Ok u)
IsOnward left t (Err (stops.Limit why)) = ⊥
IsOnward left t (Err stops.Memory) = Unit {0}

-- ---- calls and ends, on the stacks

-- a function has begun with this row, and the one that called it waits
abbrev pub EntersHere : Machine → Row → Frame → FuncId → ℕ → Result (Unit {0}) Stop → Frame → Machine → Type 0
EntersHere s row f function count (Ok u) g late = Entered s row f function count g late
EntersHere s row f function count (Err (stops.Limit why)) g late = ⊥
EntersHere s row f function count (Err stops.Memory) g late = Unit {0}

-- a value was put on top for the function that waited, and that is the one that runs
abbrev pub GivenHere : Rows → List Value → Frame → Value → Result (Bor Row) Stop → Frame → List Value → Type 0
GivenHere rows vs f v result g us = GivenTo vs f v (next_of g result) us × IfOk result (λ r. HasRow rows g r.now)

module _ {W S : Type 0} (state : W → State ℕ S) (modules : S → Modules ℕ) (linked : S → ℕ → Bool) (begins : Importing ℕ S)
    (Ready : W → Type 0) (Keeps : W → W → Type 0) (owns : S → ℕ → List (List ℕ)) where
  -- functions go on from where the frame g tells; or a limit was passed; of nothing done, and where memory ran out, nothing is said
  abbrev pub Gone : W → Here → List Waiter → Active ℕ → Result (Option (Bor Row)) Stop → W → Machine → Frame → Type 0
  Gone w h ws body (Ok (Some r)) after late g = Proceeds state modules linked begins Ready Keeps owns w h ws body g after late
  Gone w h ws body (Ok None) after late g = Unit {0}
  Gone w h ws body (Err (stops.Limit why)) after late g = HaltsAll state modules linked begins Ready Keeps owns w h ws body why after
  Gone w h ws body (Err stops.Memory) after late g = Unit {0}

  -- ---- operations behind which the function goes on

  -- what this operation comes to, in code of this module, wherever it stands
  abbrev pub DoneHere : W → Machine → ℕ → Op → Result (Option Value) Stop → W → Machine → Type 0
  DoneHere w s m op result after late = (f : Frame) (row : Row) (left : ℕ) → f.at.0 ≡ m → slice_get row.ops.items left ≡ Some op
      → TurnsOn state modules linked begins Ready Keeps owns w s f (left + 1) row (turn_of left result) after late

  -- ---- operations behind which another function runs

  -- what follows a turn
  abbrev pub FollowsAs : Turn → W → Machine → Rows → Frame → Result (Option (Bor Row)) Stop → W → Machine → Frame → Type 0
  FollowsAs t w s rows f result after late g = (w0 : W) (h : Here) (ws : List Waiter) (body : Active ℕ)
      → Turned state modules linked begins Ready Keeps owns w0 f h ws (Ok t) w s
      → RowsFit state modules linked begins Ready Keeps owns w rows → Gone w0 h ws body result after late g

  -- a call with so many arguments
  abbrev pub CallsFrom : W → Machine → Rows → Frame → ℕ → ℕ → Result (Option (Bor Row)) Stop → W → Machine → Frame → Type 0
  CallsFrom w s rows f count left result after late g = IsTold rows w s f result after late g
      × FollowsAs (turn.Calls count left) w s rows f result after late g

  -- of this function, where fewer are active than may be
  abbrev pub FoundFrom : W → Machine → Rows → Frame → FuncId → ℕ → ℕ → Result (Option (Bor Row)) Stop → W → Machine → Frame → Type 0
  FoundFrom w s rows f function count left result after late g = IsTold rows w s f result after late g
      × (IsCallee s.operands.items count (Some function) → length s.frames.items + 1 < MAX_CALL_DEPTH
      → FollowsAs (turn.Calls count left) w s rows f result after late g)

  -- the same where this is its row
  abbrev pub BeginsFrom : W → Machine → Row → Frame → FuncId → ℕ → ℕ → Result (Bor Row) Stop → W → Machine → Frame → Type 0
  BeginsFrom w s row f function count left result after late g = (rows : Rows)
      → row_in rows function.module.0 function.index ≡ Some row
      → FoundFrom w s rows f function count left (some_row result) after late g

  -- this value is given to the function that waits, which goes on
  abbrev pub ResumesFrom : W → Machine → Rows → Frame → Value → Result (Bor Row) Stop → Machine → Frame → Type 0
  ResumesFrom w s rows f v result late g = IsTold rows w s f (some_row result) w late g
      × FollowsAs (turn.Returns v) w s rows f (some_row result) w late g

  -- what follows this operation, wherever it stands
  abbrev pub FollowsOp : W → Machine → Rows → Frame → Op → ℕ → Result (Option (Bor Row)) Stop → W → Machine → Frame → Type 0
  FollowsOp w s rows f op left result after late g = (row : Row) (h : Here) (ws : List Waiter) (body : Active ℕ)
      → slice_get row.ops.items left ≡ Some op → Stands state modules linked begins Ready Keeps owns w s f (left + 1) h ws
      → IsRowOf state modules linked begins Ready Keeps owns w h row → RowsFit state modules linked begins Ready Keeps owns w rows
      → Gone w h ws body result after late g

  abbrev pub LeavesFrom : W → Machine → Rows → Frame → Op → ℕ → Result (Option (Bor Row)) Stop → W → Machine → Frame → Type 0
  LeavesFrom w s rows f op left result after late g = IsTold rows w s f result after late g
      × FollowsOp w s rows f op left result after late g

  -- the same of a return, and of an end, however many operations are left behind it
  abbrev pub ReturnsFrom : W → Machine → Rows → Frame → Result (Option (Bor Row)) Stop → Machine → Frame → Type 0
  ReturnsFrom w s rows f result late g = (left : ℕ) → LeavesFrom w s rows f ops.Return left result w late g

  abbrev pub EndsFrom : W → Machine → Rows → Frame → Result (Option (Bor Row)) Stop → Machine → Frame → Type 0
  EndsFrom w s rows f result late g = (left : ℕ) → LeavesFrom w s rows f ops.End left result w late g

  -- ---- functions run

  -- a function has left its row by this turn, and nothing has followed yet
  pub record LeavesAt (w : W) (h : Here) (ws : List Waiter) (body : Active ℕ) (t : Turn) (after : W) (late : Machine) (g : Frame)
      : Type 0 where
    pub from : W
    pub there : Here
    pub waiters : List Waiter
    pub turned : Turned state modules linked begins Ready Keeps owns from g there waiters (Ok t) after late
    pub leads : (how : Ended ℕ) (end : State ℕ S)
        → SegmentOf state modules linked begins Ready Keeps owns from there waiters body how end
        → SegmentOf state modules linked begins Ready Keeps owns w h ws body how end
    pub keeps : Keeps w from

  abbrev pub HasLeft : W → Here → List Waiter → Active ℕ → Result Turn Stop → W → Machine → Frame → Type 0
  HasLeft w h ws body (Ok t) after late g = LeavesAt w h ws body t after late g
  HasLeft w h ws body (Err (stops.Limit why)) after late g = HaltsAll state modules linked begins Ready Keeps owns w h ws body why after
  HasLeft w h ws body (Err stops.Memory) after late g = Unit {0}

  -- what operations come to: of the function that runs, of those that it calls, and of those that wait for it
  abbrev pub GoesFrom : W → Machine → Rows → Frame → Result Turn Stop → W → Machine → Frame → Type 0
  GoesFrom w s rows f result after late g = (h : Here) (ws : List Waiter) (body : Active ℕ)
      → Stands state modules linked begins Ready Keeps owns w s f f.left h ws
      → RowsFit state modules linked begins Ready Keeps owns w rows → HasLeft w h ws body result after late g
