-- What follows operations of a row, where a body is the outermost caller: functions go on, or their value is the body's.
use Rattle.std.specs.Prelude.{◌≡◌, ℕ, nat_eq, Bool, List, [], ◌∷◌, ◌++◌, length, take, Some, Result, Ok, Err, OnOk}
use Rattle.esm_base.specs.declared.limits.Limit.{Limit}
use Rattle.esm_tree.specs.Syntax.{Item}
use Rattle.esm_env.specs.Modules.{Modules, function_of}
use Rattle.esm_env.specs.Declarations.{FunctionCode}
use Rattle.esm_values.specs.Code.{CodeValue, value_of, values_of, func_value}
use Rattle.esm_values.specs.declared.value.FuncId.{FuncId}
use Rattle.esm_values.specs.declared.value.Value.{Value}
use Rattle.esm_expr_eval.specs.Terms.{Term}
use Rattle.esm_expr_eval.specs.Terms.Term.{Val, Fails}
use Rattle.esm_rewriting.specs.Rest.{Rest, fill_rest}
use Rattle.esm_rewriting.specs.State.{State, Importing}
use Rattle.esm_rewriting.specs.Segment.{Active, Ended, Segment, called}
use Rattle.esm_rewriting.specs.Segment.{Ended as ended}
use Rattle.esm_rewriting.specs.declared.stop.Stop.{Stop}
use Rattle.esm_rewriting.specs.declared.stop.Stop.TheVariants as stops
use Rattle.esm_rows.specs.Functions.{IsRow}
use Rattle.esm_rows.specs.declared.row.Row.{Row}
use Rattle.esm_row_laws.specs.Spots.{Round, rounds_row}
use Rattle.esm_row_laws.specs.Operations.{Values}
use Rattle.esm_row_laws.specs.Landings.{ThrowsIn, remains}
use Rattle.esm_row_machine.specs.Functions.{Here, Waiter, what_remains, callers}
use Rattle.esm_row_machine.specs.Stacks.{HasNames, IsLeft, operands_under}
use Rattle.esm_row_machine.specs.Outside.{AllKnown, modules_in, owns_in}
use Rattle.esm_row_machine.specs.Tables.{row_in}
use Rattle.esm_row_machine.specs.Turns.{Linked, Known, Fits, Stands, GivesBack, ThrowsHere, CallsHere, Turned}
use Rattle.esm_row_machine.specs.declared.machine.Frame.{Frame}
use Rattle.esm_row_machine.specs.declared.machine.Handler.{Handler}
use Rattle.esm_row_machine.specs.declared.machine.Machine.{Machine}
use Rattle.esm_row_machine.specs.declared.turn.Turn.{Turn}
use Rattle.esm_row_machine.specs.declared.runs.Next.{Next}
use Rattle.esm_row_machine.specs.declared.runs.Next.TheVariants as next
use Rattle.esm_row_machine.specs.declared.runs.Ending.{Ending}
use Rattle.esm_row_machine.specs.declared.runs.Ending.TheVariants as ending
use Rattle.esm_row_machine.specs.declared.rows.Rows.{Rows}

-- a value was put on top for the function that waited, which goes on
abbrev pub GivenTo : List Value → Frame → Value → Result Next Stop → List Value → Type 0
GivenTo vs f v (Ok (next.Goes g)) us = (g ≡ f) × (us ≡ vs ++ v ∷ [])
GivenTo vs f v (Ok (next.Gave u)) us = ⊥
GivenTo vs f v (Ok (next.Thrown u)) us = ⊥
GivenTo vs f v (Err (stops.Limit why)) us = ⊥
GivenTo vs f v (Err stops.Memory) us = Unit {0}

-- a throw has led to the handler on top
pub record LandsOn (s : Machine) (f : Frame) (v : Value) (g : Frame) (late : Machine) : Type 0 where
  pub handler : Handler
  pub handlers : s.handlers.items ≡ late.handlers.items ++ handler ∷ []
  pub names : late.names.items ≡ take handler.names s.names.items
  pub frames : late.frames.items ≡ s.frames.items
  pub operands : late.operands.items ≡ take f.operands s.operands.items ++ v ∷ []
  pub goes : g ≡ record f { left = handler.left }

abbrev pub Landed : Machine → Frame → Value → Result Next Stop → Machine → Type 0
Landed s f v (Ok (next.Goes g)) late = LandsOn s f v g late
Landed s f v (Ok (next.Gave u)) late = ⊥
Landed s f v (Ok (next.Thrown u)) late = ⊥
Landed s f v (Err (stops.Limit why)) late = ⊥
Landed s f v (Err stops.Memory) late = Unit {0}

module _ {W S : Type 0} (state : W → State ℕ S) (modules : S → Modules ℕ) (linked : S → ℕ → Bool) (begins : Importing ℕ S)
    (Ready : W → Type 0) (Keeps : W → W → Type 0) (owns : S → ℕ → List (List ℕ)) where
  abbrev pub Tree : W → ℕ → List Item
  Tree w = (modules_in state modules linked begins Ready Keeps w).tree

  -- a segment of this function with those that wait, and the body
  abbrev pub SegmentOf : W → Here → List Waiter → Active ℕ → Ended ℕ → State ℕ S → Type 0
  SegmentOf w h ws body how end = Segment nat_eq modules begins (state w) h.at (what_remains h)
      (callers modules begins ws ++ body ∷ []) how end

  -- functions go on, and a segment of what remains of them is one of what remained
  pub record Proceeds (w : W) (h : Here) (ws : List Waiter) (body : Active ℕ) (f : Frame) (after : W) (late : Machine) : Type 0 where
    pub there : Here
    pub waiters : List Waiter
    pub stands : Stands state modules linked begins Ready Keeps owns after late f f.left there waiters
    pub leads : (how : Ended ℕ) (end : State ℕ S) → SegmentOf after there waiters body how end → SegmentOf w h ws body how end
    pub keeps : Keeps w after

  -- the outermost function is over, and the body goes on with what stands for its call
  pub record IsDone (w : W) (h : Here) (ws : List Waiter) (body : Active ℕ) (given : Term CodeValue) (v : CodeValue) (after : W)
      : Type 0 where
    pub leads : (how : Ended ℕ) (end : State ℕ S)
        → Segment nat_eq modules begins (state after) body.at (fill_rest given body.rest) [] how end → SegmentOf w h ws body how end
    pub known : Known state modules linked begins Ready Keeps owns after v
    pub is_ready : Ready after
    pub keeps : Keeps w after

  -- a limit was passed
  pub record HaltsAll (w : W) (h : Here) (ws : List Waiter) (body : Active ℕ) (why : Limit) (after : W) : Type 0 where
    pub stops : SegmentOf w h ws body (ended.Stopped why) (state after)
    pub keeps : Keeps w after

  abbrev pub Followed : W → Here → List Waiter → Active ℕ → Result Next Stop → W → Machine → Type 0
  Followed w h ws body (Ok (next.Goes f)) after late = Proceeds w h ws body f after late
  Followed w h ws body (Ok (next.Gave v)) after late = IsDone w h ws body (Val (value_of v)) (value_of v) after
  Followed w h ws body (Ok (next.Thrown v)) after late = IsDone w h ws body (Fails (value_of v)) (value_of v) after
  Followed w h ws body (Err (stops.Limit why)) after late = HaltsAll w h ws body why after
  Followed w h ws body (Err stops.Memory) after late = Unit {0}

  -- ---- ends and throws of functions

  -- what follows where a function gives this value
  abbrev pub Returns : W → Machine → Frame → Value → Result Next Stop → Machine → Type 0
  Returns w s f v result late = (w0 : W) (h : Here) (ws : List Waiter) (body : Active ℕ)
      → GivesBack state modules linked begins Ready Keeps owns w0 f h ws (value_of v) w s → Followed w0 h ws body result w late

  -- a throw is under way in this function, above those that wait
  pub record Flies (w0 : W) (h : Here) (ws : List Waiter) (body : Active ℕ) (f : Frame) (v : CodeValue) (w : W) (s : Machine) : Type 0 where
    pub home : ℕ
    pub number : ℕ
    pub rounds : List Round
    pub vss : Values
    pub rest : Rest CodeValue
    pub mid : State ℕ S
    pub waiters : List Waiter
    pub leads : (how : Ended ℕ) (end : State ℕ S)
        → Segment nat_eq modules begins mid home (remains modules begins rounds vss rest)
        (callers modules begins waiters ++ body ∷ []) how end
        → SegmentOf w0 h ws body how end
    pub throws : ThrowsIn modules begins home rounds vss mid rest v (state w)
    pub row : IsLeft (Tree w) home number (rounds_row rounds) (length (rounds_row rounds))
    pub below : HasNames (Tree w) s f home number rounds vss waiters
    pub above : List CodeValue
    pub stacked : values_of s.operands.items ≡ operands_under waiters ++ above
    pub known : Known state modules linked begins Ready Keeps owns w v
    pub fits : Fits state modules linked begins Ready Keeps owns w s home waiters
    pub keeps : Keeps w0 w

  -- what follows where it is
  abbrev pub Lands : W → Machine → Frame → Value → Result Next Stop → Machine → Type 0
  Lands w s f v result late = (w0 : W) (h : Here) (ws : List Waiter) (body : Active ℕ)
      → Flies w0 h ws body f (value_of v) w s → Followed w0 h ws body result w late

  -- what follows where a function throws this
  abbrev pub ThrowsBack : W → Machine → Frame → Value → Result Next Stop → Machine → Type 0
  ThrowsBack w s f v result late = (w0 : W) (h : Here) (ws : List Waiter) (body : Active ℕ)
      → ThrowsHere state modules linked begins Ready Keeps owns w0 f h ws (value_of v) w s → Followed w0 h ws body result w late

  -- ---- calls

  -- each row in the table is that of its function
  abbrev pub RowsFit : W → Rows → Type 0
  RowsFit w rows = (m k : ℕ) (row : Row) → row_in rows m k ≡ Some row → Linked state modules linked begins Ready Keeps owns w m
      × ((f : FunctionCode) × (function_of (modules_in state modules linked begins Ready Keeps w) m k ≡ Some f)
      × IsRow (owns_in state modules linked begins Ready Keeps owns w m) f row)

  -- what follows where a function calls a value with so many arguments
  abbrev pub Calls : W → Machine → Rows → Frame → ℕ → Result Next Stop → W → Machine → Rows → Type 0
  Calls w s rows f count result after late tables = (w0 : W) (h : Here) (ws : List Waiter) (body : Active ℕ)
      → CallsHere state modules linked begins Ready Keeps owns w0 f h ws count f.left w s → RowsFit w rows
      → Followed w0 h ws body result after late × OnOk result (RowsFit after tables)

  -- what follows an operation that leaves its row
  abbrev pub FollowsTurn : W → Machine → Rows → Frame → Turn → Result Next Stop → W → Machine → Rows → Type 0
  FollowsTurn w s rows f turn result after late tables = (w0 : W) (h : Here) (ws : List Waiter) (body : Active ℕ)
      → Turned state modules linked begins Ready Keeps owns w0 f h ws (Ok turn) w s → RowsFit w rows
      → Followed w0 h ws body result after late × OnOk result (RowsFit after tables)

  -- ---- to the end

  abbrev pub Ends : W → Here → List Waiter → Active ℕ → Result Ending Stop → W → Type 0
  Ends w h ws body (Ok (ending.Value v)) after = IsDone w h ws body (Val (value_of v)) (value_of v) after
  Ends w h ws body (Ok (ending.Thrown v)) after = IsDone w h ws body (Fails (value_of v)) (value_of v) after
  Ends w h ws body (Err (stops.Limit why)) after = HaltsAll w h ws body why after
  Ends w h ws body (Err stops.Memory) after = Unit {0}

  -- functions run until the outermost is over
  abbrev pub Runs : W → Machine → Rows → Frame → Result Ending Stop → W → Rows → Type 0
  Runs w s rows f result after tables = (h : Here) (ws : List Waiter) (body : Active ℕ)
      → Stands state modules linked begins Ready Keeps owns w s f f.left h ws → RowsFit w rows
      → Ends w h ws body result after × OnOk result (RowsFit after tables)

  abbrev pub CalledSegment : W → Active ℕ → Active ℕ → Ended ℕ → State ℕ S → Type 0
  CalledSegment w callee body how end = Segment nat_eq modules begins (state w) callee.at callee.rest (body ∷ []) how end

  -- the call is over, and the body goes on with what stands for it
  pub record CallIsDone (w : W) (callee body : Active ℕ) (given : Term CodeValue) (v : CodeValue) (after : W) : Type 0 where
    pub leads : (how : Ended ℕ) (end : State ℕ S)
        → Segment nat_eq modules begins (state after) body.at (fill_rest given body.rest) [] how end → CalledSegment w callee body how end
    pub known : Known state modules linked begins Ready Keeps owns after v
    pub is_ready : Ready after
    pub keeps : Keeps w after

  abbrev pub CallEnds : W → Active ℕ → Active ℕ → Result Ending Stop → W → Type 0
  CallEnds w callee body (Ok (ending.Value v)) after = CallIsDone w callee body (Val (value_of v)) (value_of v) after
  CallEnds w callee body (Ok (ending.Thrown v)) after = CallIsDone w callee body (Fails (value_of v)) (value_of v) after
  CallEnds w callee body (Err (stops.Limit why)) after = CalledSegment w callee body (ended.Stopped why) (state after) × Keeps w after
  CallEnds w callee body (Err stops.Memory) after = Unit {0}

  -- a function is called with these values from a body: what is called, and what the call comes to
  abbrev pub CalledBy : W → Rows → FuncId → List CodeValue → Result Ending Stop → W → Rows → Type 0
  CalledBy w rows function vs result after tables = Ready w → RowsFit w rows
      → Known state modules linked begins Ready Keeps owns w (func_value function)
      → AllKnown (Known state modules linked begins Ready Keeps owns w) vs → (callee body : Active ℕ)
      → called (modules_in state modules linked begins Ready Keeps w) (func_value function) vs ≡ Some callee
      → CallEnds w callee body result after × OnOk result (RowsFit after tables)
