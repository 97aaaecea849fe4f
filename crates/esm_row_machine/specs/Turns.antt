-- What an operation, and what follows it, comes to: what remains of functions leads on as the definitions say.
use Rattle.std.specs.Prelude.{◌≡◌, ℕ, nat_eq, Bool, List, [], ◌∷◌, ◌++◌, length, reverse, Option, Some, Result, Ok, Err}
use Rattle.esm_base.specs.declared.limits.Limit.{Limit}
use Rattle.esm_tree.specs.Syntax.{Links}
use Rattle.esm_env.specs.Modules.{Modules, function_of}
use Rattle.esm_env.specs.Declarations.{FunctionCode}
use Rattle.esm_values.specs.Code.{CodeValue, value_of, values_of, numbered}
use Rattle.esm_values.specs.declared.value.Value.{Value}
use Rattle.esm_expr_eval.specs.Terms.Term.{Val}
use Rattle.esm_rewriting.specs.Rest.{Rest, fill_rest}
use Rattle.esm_rewriting.specs.State.{State, Importing}
use Rattle.esm_rewriting.specs.Segment.{Active, Ended, Segment}
use Rattle.esm_rewriting.specs.Segment.{Ended as ended}
use Rattle.esm_rewriting.specs.declared.stop.Stop.{Stop}
use Rattle.esm_rewriting.specs.declared.stop.Stop.TheVariants as stops
use Rattle.esm_rows.specs.Functions.{IsRow}
use Rattle.esm_rows.specs.declared.row.Row.{Row}
use Rattle.esm_row_laws.specs.Spots.{Round, Kont, Spot, Has, Posts, rounds_of, rounds_row, spot_row}
use Rattle.esm_row_laws.specs.Rooms.{HasRoom}
use Rattle.esm_row_laws.specs.Remaining.{rest_at}
use Rattle.esm_row_laws.specs.Leading.{Leads}
use Rattle.esm_row_laws.specs.Operations.{Values}
use Rattle.esm_row_laws.specs.Landings.{ThrowsIn, remains}
use Rattle.esm_row_laws.specs.Callings.{Calling}
use Rattle.esm_row_machine.specs.Functions.{Here, Waiter, what_remains, moved}
use Rattle.esm_row_machine.specs.Stacks.{HasNames, IsLeft, StandsFor, name_value, operands_under}
use Rattle.esm_row_machine.specs.Outside.{AllKnown, KnownIfSome, modules_in, IsLinked, KnowsIn, owns_in}
use Rattle.esm_row_machine.specs.declared.machine.Frame.{Frame}
use Rattle.esm_row_machine.specs.declared.machine.Machine.{Machine}
use Rattle.esm_row_machine.specs.declared.turn.Turn.{Turn}
use Rattle.esm_row_machine.specs.declared.turn.Turn.TheVariants as turn

abbrev pub AreNamesKnown : (CodeValue → Type 0) → List (Option Value) → Type 0
AreNamesKnown K [] = Unit {0}
AreNamesKnown K (v ∷ vs) = KnownIfSome K (name_value v) × AreNamesKnown K vs

module _ {W S : Type 0} (state : W → State ℕ S) (modules : S → Modules ℕ) (linked : S → ℕ → Bool) (begins : Importing ℕ S)
    (Ready : W → Type 0) (Keeps : W → W → Type 0) (owns : S → ℕ → List (List ℕ)) where
  abbrev pub Linked : W → ℕ → Type 0
  Linked w m = IsLinked state modules linked begins Ready Keeps w m

  abbrev pub Known : W → CodeValue → Type 0
  Known w v = KnowsIn state modules linked begins Ready Keeps w v

  abbrev pub AreLinkedAll : W → List Waiter → Type 0
  AreLinkedAll w [] = Unit {0}
  AreLinkedAll w (a ∷ ws) = Linked w a.at × AreLinkedAll w ws

  -- the world is ready for the function that runs, and all values on the stacks are known
  pub record Fits (w : W) (s : Machine) (m : ℕ) (ws : List Waiter) : Type 0 where
    pub is_ready : Ready w
    pub home : Linked w m
    pub homes : AreLinkedAll w ws
    pub operands : AllKnown (Known w) (values_of s.operands.items)
    pub names : AreNamesKnown (Known w) s.names.items

  -- the stacks stand for this function at this place, above those that wait, and can go on
  pub record Stands (w : W) (s : Machine) (f : Frame) (left : ℕ) (h : Here) (ws : List Waiter) : Type 0 where
    pub stands : StandsFor (modules_in state modules linked begins Ready Keeps w).tree s f left h ws
    pub fits : Fits w s h.at ws

  -- the row of the function, as it is in its module
  abbrev pub IsRowOf : W → Here → Row → Type 0
  IsRowOf w h row = (f : FunctionCode) × (function_of (modules_in state modules linked begins Ready Keeps w) h.at h.function ≡ Some f)
      × IsRow (owns_in state modules linked begins Ready Keeps owns w h.at) f row

  abbrev pub LeadsTo : W → Here → W → Here → Type 0
  LeadsTo w h after n = Leads nat_eq modules begins h.at (state w) (what_remains h) (state after) (what_remains n)

  -- ---- an operation

  -- these are the blocks of the function that runs and the values of its names
  abbrev pub NamesAre : W → Machine → Frame → Here → List Round → Values → List Waiter → Type 0
  NamesAre w s f h rs vss ws = HasNames (modules_in state modules linked begins Ready Keeps w).tree s f h.at h.function rs vss ws

  -- the function goes on at another place
  pub record GoesOn (w : W) (f : Frame) (h : Here) (ws : List Waiter) (left : ℕ) (after : W) (late : Machine) : Type 0 where
    pub spot : Spot
    pub vss : Values
    pub values : List CodeValue
    pub stands : Stands after late f left (moved h spot vss values) ws
    pub leads : LeadsTo w h after (moved h spot vss values)
    pub keeps : Keeps w after

  -- it calls a value with so many arguments. Below these are the operands of what waits
  pub record CallsHere (w : W) (f : Frame) (h : Here) (ws : List Waiter) (count left : ℕ) (after : W) (late : Machine) : Type 0 where
    pub links : Links
    pub kont : Kont
    pub callee : CodeValue
    pub arguments : List CodeValue
    pub under : List CodeValue
    pub spot : Spot
    pub values : List CodeValue
    pub vss : Values
    pub leads : Leads nat_eq modules begins h.at (state w) (what_remains h) (state after) (rest_at numbered spot vss values)
    pub calling : Calling links kont callee under arguments spot values
    pub room : HasRoom kont under
    pub many : length arguments ≡ count
    pub below : NamesAre after late f h (rounds_of kont) vss ws
    pub stacked : values_of late.operands.items ≡ (operands_under ws ++ reverse under) ++ callee ∷ arguments
    pub place : IsLeft (modules_in state modules linked begins Ready Keeps after).tree h.at h.function
        (spot_row (Has (Posts links kont))) left
    pub fits : Fits after late h.at ws
    pub keeps : Keeps w after

  -- it gives its caller this value
  pub record GivesBack (w : W) (f : Frame) (h : Here) (ws : List Waiter) (v : CodeValue) (after : W) (late : Machine) : Type 0 where
    pub rounds : List Round
    pub vss : Values
    pub gives : (c : Active ℕ) (cs : List (Active ℕ)) (how : Ended ℕ) (end : State ℕ S)
        → Segment nat_eq modules begins (state after) c.at (fill_rest (Val v) c.rest) cs how end
        → Segment nat_eq modules begins (state w) h.at (what_remains h) (c ∷ cs) how end
    pub below : NamesAre after late f h rounds vss ws
    pub stacked : values_of late.operands.items ≡ operands_under ws
    pub known : Known after v
    pub fits : Fits after late h.at ws
    pub keeps : Keeps w after

  -- it throws this, above the operands of the functions that wait
  pub record ThrowsHere (w : W) (f : Frame) (h : Here) (ws : List Waiter) (v : CodeValue) (after : W) (late : Machine) : Type 0 where
    pub rounds : List Round
    pub vss : Values
    pub rest : Rest CodeValue
    pub mid : State ℕ S
    pub leads : Leads nat_eq modules begins h.at (state w) (what_remains h) mid (remains modules begins rounds vss rest)
    pub throws : ThrowsIn modules begins h.at rounds vss mid rest v (state after)
    pub row : IsLeft (modules_in state modules linked begins Ready Keeps after).tree h.at h.function (rounds_row rounds)
        (length (rounds_row rounds))
    pub below : NamesAre after late f h rounds vss ws
    pub above : List CodeValue
    pub stacked : values_of late.operands.items ≡ operands_under ws ++ above
    pub known : Known after v
    pub fits : Fits after late h.at ws
    pub keeps : Keeps w after

  -- a limit was passed
  pub record Halts (w : W) (h : Here) (why : Limit) (after : W) : Type 0 where
    pub stops : (cs : List (Active ℕ)) → Segment nat_eq modules begins (state w) h.at (what_remains h) cs (ended.Stopped why) (state after)
    pub keeps : Keeps w after

  -- what an operation of a function at this place comes to; where memory ran out nothing is said
  abbrev pub Turned : W → Frame → Here → List Waiter → Result Turn Stop → W → Machine → Type 0
  Turned w f h ws (Ok (turn.On n)) after late = GoesOn w f h ws n after late
  Turned w f h ws (Ok (turn.Calls count n)) after late = CallsHere w f h ws count n after late
  Turned w f h ws (Ok (turn.Returns v)) after late = GivesBack w f h ws (value_of v) after late
  Turned w f h ws (Ok (turn.Throws v)) after late = ThrowsHere w f h ws (value_of v) after late
  Turned w f h ws (Err (stops.Limit why)) after late = Halts w h why after
  Turned w f h ws (Err stops.Memory) after late = Unit {0}

  -- so many operations are left of the row of the function that runs
  abbrev pub TurnsOn : W → Machine → Frame → ℕ → Row → Result Turn Stop → W → Machine → Type 0
  TurnsOn w s f left row result after late =
      (h : Here) (ws : List Waiter) → Stands w s f left h ws → IsRowOf w h row → Turned w f h ws result after late
