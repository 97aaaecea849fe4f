-- How a function begins on the stacks.
use Rattle.std.specs.Prelude.{◌≡◌, ℕ, zero, suc, false, List, [], ◌∷◌, ◌++◌, length, replicate, Option, Some, None, Result, Ok, Err}
use Rattle.esm_values.specs.Value as value
use Rattle.esm_values.specs.Operators.{look_of, is_func}
use Rattle.esm_values.specs.Code.{CodeValue, value_of, values_of}
use Rattle.esm_values.specs.declared.value.FuncId.{FuncId}
use Rattle.esm_values.specs.declared.value.Value.{Value}
use Rattle.esm_values.specs.declared.value.Value.TheVariants as values
use Rattle.esm_rewriting.specs.declared.stop.Stop.{Stop}
use Rattle.esm_rewriting.specs.declared.stop.Stop.TheVariants as stops
use Rattle.esm_rows.specs.declared.row.Row.{Row}
use Rattle.esm_row_machine.specs.Stacks.{names_on}
use Rattle.esm_row_machine.specs.Tables.{row_in}
use Rattle.esm_row_machine.specs.declared.machine.Frame.{Frame}
use Rattle.esm_row_machine.specs.declared.machine.Machine.{Machine}
use Rattle.esm_row_machine.specs.declared.rows.Rows.{Rows}
use Rattle.esm_row_machine.specs.declared.runs.Next.{Next}
use Rattle.esm_row_machine.specs.declared.runs.Next.TheVariants as next

-- ---- arguments

-- the values of so many parameters: a missing one is undefined, further ones are dropped
abbrev pub passed : ℕ → List CodeValue → List (Option CodeValue)
passed zero vs = []
passed (suc n) [] = Some value.Undefined ∷ passed n []
passed (suc n) (v ∷ vs) = Some v ∷ passed n vs

-- ---- the callee

-- the function that a value is, if it is one
abbrev pub func_in : Value → Option FuncId
func_in values.Undefined = None
func_in (values.Bool b) = None
func_in (values.Text t) = None
func_in (values.Func id) = Some id
func_in (values.Error e) = None
func_in (values.Namespace m) = None
func_in (values.Promise p) = None

-- the callee below so many arguments
abbrev pub IsCallee : List Value → ℕ → Option FuncId → Type 0
IsCallee vs n None = (below : List Value) (f : Value) (us : List Value) → vs ≡ below ++ f ∷ us → length us ≡ n
    → is_func (look_of (value_of f)) ≡ false
IsCallee vs n (Some id) = (below : List Value) × (us : List Value) × (vs ≡ below ++ values.Func id ∷ us) × (length us ≡ n)

-- ---- the function begins

-- with so many arguments above the callee
pub record EntersAs (s : Machine) (function : FuncId) (row : Row) (count : ℕ) (g : Frame) (late : Machine) : Type 0 where
  pub under : List Value
  pub callee : Value
  pub arguments : List Value
  pub stacked : s.operands.items ≡ under ++ callee ∷ arguments
  pub many : length arguments ≡ count
  pub operands : late.operands.items ≡ under
  pub names : names_on late.names.items
      ≡ names_on s.names.items ++ (passed row.parameters (values_of arguments) ++ replicate row.names None)
  pub handlers : late.handlers.items ≡ s.handlers.items
  pub frames : late.frames.items ≡ s.frames.items
  pub home : g.at ≡ function.module
  pub number : g.function ≡ function.index
  pub left : g.left ≡ length row.ops.items
  pub names_below : g.names ≡ length s.names.items
  pub operands_below : g.operands ≡ length under
  pub handlers_below : g.handlers ≡ length s.handlers.items

-- a function more waits, and its callee runs
abbrev pub WaitsFor : List Frame → Frame → Frame → Result Next Stop → List Frame → Type 0
WaitsFor fs f callee (Ok (next.Goes g)) gs = (g ≡ callee) × (gs ≡ fs ++ f ∷ [])
WaitsFor fs f callee (Ok (next.Gave v)) gs = ⊥
WaitsFor fs f callee (Ok (next.Thrown v)) gs = ⊥
WaitsFor fs f callee (Err (stops.Limit why)) gs = ⊥
WaitsFor fs f callee (Err stops.Memory) gs = Unit {0}

-- with this row, and its caller waits
pub record Entered (s : Machine) (row : Row) (f : Frame) (function : FuncId) (count : ℕ) (g : Frame) (late : Machine) : Type 0 where
  pub mid : Machine
  pub enters : EntersAs s function row count g mid
  pub operands : late.operands.items ≡ mid.operands.items
  pub names : late.names.items ≡ mid.names.items
  pub handlers : late.handlers.items ≡ mid.handlers.items
  pub frames : late.frames.items ≡ mid.frames.items ++ f ∷ []

-- so it does, with its row from the table
pub record Begun (s : Machine) (rows : Rows) (f : Frame) (function : FuncId) (count : ℕ) (g : Frame) (late : Machine) : Type 0 where
  pub row : Row
  pub there : row_in rows function.module.0 function.index ≡ Some row
  pub entered : Entered s row f function count g late

abbrev pub BegunBy : Machine → Rows → Frame → FuncId → ℕ → Result Next Stop → Machine → Type 0
BegunBy s rows f function count (Ok (next.Goes g)) late = Begun s rows f function count g late
BegunBy s rows f function count (Ok (next.Gave v)) late = ⊥
BegunBy s rows f function count (Ok (next.Thrown v)) late = ⊥
BegunBy s rows f function count (Err (stops.Limit why)) late = ⊥
BegunBy s rows f function count (Err stops.Memory) late = Unit {0}

-- ---- the outermost function

-- the stacks have a callee and its arguments, and nothing else
pub record IsStacked (function : FuncId) (vs : List Value) (s : Machine) : Type 0 where
  pub operands : s.operands.items ≡ values.Func function ∷ vs
  pub names : s.names.items ≡ []
  pub handlers : s.handlers.items ≡ []
  pub frames : s.frames.items ≡ []

-- it begins with its row from the table
pub record BeginsFirst (s : Machine) (rows : Rows) (function : FuncId) (count : ℕ) (g : Frame) (late : Machine) : Type 0 where
  pub row : Row
  pub there : row_in rows function.module.0 function.index ≡ Some row
  pub enters : EntersAs s function row count g late
