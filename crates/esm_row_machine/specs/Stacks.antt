-- How functions under way stand on the stacks: those that wait one above the other, the innermost on top, and above them the one
-- that runs.
use Rattle.std.specs.Prelude.{◌≡◌, ◌+◌, ℕ, List, [], ◌∷◌, ◌++◌, length, map, reverse, Option, Some, None}
use Rattle.esm_tree.specs.Syntax.{Item}
use Rattle.esm_values.specs.Code.{CodeValue, value_of, values_of}
use Rattle.esm_values.specs.declared.value.Value.{Value}
use Rattle.esm_env.specs.Declarations.{FunctionCode, function_at}
use Rattle.esm_rows.specs.Rows.{Row, function_row}
use Rattle.esm_row_laws.specs.Spots.{Round, Own, Inner, First, Tried, names_of, Posts, Has, rounds_of, left_row, handled_row, spot_row}
use Rattle.esm_row_laws.specs.Rooms.{HasRoom, SpotHasRoom}
use Rattle.esm_row_laws.specs.Places.{flat, FitNames}
use Rattle.esm_row_laws.specs.Operations.{Values}
use Rattle.esm_row_laws.specs.Landings.{outer_values}
use Rattle.esm_row_laws.specs.Endings.{EndsWith}
use Rattle.esm_row_machine.specs.Functions.{Here, Waiter, rounds_at}
use Rattle.esm_row_machine.specs.declared.machine.Frame.{Frame}
use Rattle.esm_row_machine.specs.declared.machine.Handler.{Handler}
use Rattle.esm_row_machine.specs.declared.machine.Machine.{Machine}

-- ---- the values on the stacks

abbrev pub name_value : Option Value → Option CodeValue
name_value None = None
name_value (Some v) = Some (value_of v)

abbrev pub names_on : List (Option Value) → List (Option CodeValue)
names_on vs = map name_value vs

-- ---- the handlers of a function, the innermost last. So many values of names stand below its own

abbrev pub handler_by : ℕ → Round → List Round → Values → List Handler
handler_by base (Own ds) rs vss = []
handler_by base (Inner ds l) rs vss = []
handler_by base (First ds others l) rs vss = []
handler_by base (Tried ds caught handler l) rs vss = record {
  left = length (handled_row caught handler (names_of rs) (left_row l rs));
  names = base + length (flat vss);
} ∷ []

abbrev pub handlers_of : ℕ → List Round → Values → List Handler
handlers_of base [] vss = []
handlers_of base (r ∷ rs) vss = handlers_of base rs (outer_values vss) ++ handler_by base r rs (outer_values vss)

-- ---- what functions that wait have on the stacks, the innermost of them first

abbrev pub operands_under : List Waiter → List CodeValue
operands_under [] = []
operands_under (w ∷ ws) = operands_under ws ++ reverse w.operands

abbrev pub names_under : List Waiter → List (Option CodeValue)
names_under [] = []
names_under (w ∷ ws) = names_under ws ++ flat w.names

abbrev pub handlers_under : List Waiter → List Handler
handlers_under [] = []
handlers_under (w ∷ ws) = handlers_under ws ++ handlers_of (length (names_under ws)) (rounds_of w.kont) w.names

-- ---- frames

-- the function with this number of this module begins on the stacks above these
pub record IsFrame (f : Frame) (m k : ℕ) (ws : List Waiter) : Type 0 where
  pub home : f.at.0 ≡ m
  pub number : f.function ≡ k
  pub names_below : f.names ≡ length (names_under ws)
  pub operands_below : f.operands ≡ length (operands_under ws)
  pub handlers_below : f.handlers ≡ length (handlers_under ws)

-- so many operations are left in the row of the function with this number, and these are they
pub record IsLeft (tree : ℕ → List Item) (m k : ℕ) (c : Row) (left : ℕ) : Type 0 where
  pub code : FunctionCode
  pub there : function_at (tree m) k ≡ Some code
  pub ends : EndsWith c (function_row code)
  pub many : left ≡ length c

-- the blocks round a place of a function: the outermost is its own, and no other
abbrev pub AreOfFunction : List Round → Type 0
AreOfFunction [] = ⊥
AreOfFunction (Own ds ∷ []) = Unit {0}
AreOfFunction (Own ds ∷ r ∷ rs) = ⊥
AreOfFunction (Inner ds l ∷ rs) = AreOfFunction rs
AreOfFunction (First ds others l ∷ rs) = AreOfFunction rs
AreOfFunction (Tried ds caught handler l ∷ rs) = AreOfFunction rs

-- a function that waits, by its frame
pub record Waits (tree : ℕ → List Item) (f : Frame) (w : Waiter) (ws : List Waiter) : Type 0 where
  pub frame : IsFrame f w.at w.function ws
  pub place : IsLeft tree w.at w.function (spot_row (Has (Posts w.links w.kont))) f.left
  pub fit : FitNames (names_of (rounds_of w.kont)) w.names
  pub room : HasRoom w.kont w.operands
  pub rounds : AreOfFunction (rounds_of w.kont)

-- the frames of the functions that wait, that of the innermost last
pub data AreFrames (tree : ℕ → List Item) : List Frame → List Waiter → Type 0 where
  none_waits : AreFrames tree [] []
  one_waits : (fs : List Frame) (f : Frame) {w : Waiter} {ws : List Waiter} → AreFrames tree fs ws → Waits tree f w ws
      → AreFrames tree (fs ++ f ∷ []) (w ∷ ws)

-- ---- the function that runs, above those that wait

-- but for its operands: these are its blocks and the values of its names
pub record HasNames (tree : ℕ → List Item) (s : Machine) (f : Frame) (m k : ℕ) (rs : List Round) (vss : Values) (ws : List Waiter)
    : Type 0 where
  pub names : names_on s.names.items ≡ names_under ws ++ flat vss
  pub handlers : s.handlers.items ≡ handlers_under ws ++ handlers_of (length (names_under ws)) rs vss
  pub frames : AreFrames tree s.frames.items ws
  pub frame : IsFrame f m k ws
  pub fit : FitNames (names_of rs) vss
  pub rounds : AreOfFunction rs

-- the stacks stand for this function at this place, above those that wait
pub record StandsFor (tree : ℕ → List Item) (s : Machine) (f : Frame) (left : ℕ) (h : Here) (ws : List Waiter) : Type 0 where
  pub below : HasNames tree s f h.at h.function (rounds_at h.spot) h.names ws
  pub operands : values_of s.operands.items ≡ operands_under ws ++ reverse h.operands
  pub room : SpotHasRoom h.spot h.operands
  pub place : IsLeft tree h.at h.function (spot_row h.spot) left
