-- The cells of modules. ECMA-262, Module Environment Records: what was written stands in the world, and a cell that was
-- never written is as its module's tree says.
use Rattle.std.specs.Prelude.{ℕ, Bool, false, ◌&&◌, if◌then◌else◌, List, Option, Some, None}
use Rattle.std.specs.Str.{bytes_eq}
use Rattle.esm_values.specs.Value as values
use Rattle.esm_values.specs.Value.{Func}
use Rattle.esm_env.specs.Declarations.{Initial, initial}
use Rattle.esm_env.specs.Declarations.{Initial as initially}
use Rattle.esm_env.specs.Modules.{Modules}

-- a binding. Without a value it is uninitialized
pub record Cell (V : Type 0) : Type 0 where
  pub constant : Bool
  pub value : Option V

-- what was written to the cell of a module with a name
abbrev pub Cells : Type 0 → Type 0
Cells N = N → List ℕ → Option (values.Value N)

abbrev pub no_cells : {N : Type 0} → Cells N
no_cells = λ m x. None

abbrev pub write_cell : {N : Type 0} → (N → N → Bool) → Cells N → N → List ℕ → values.Value N → Cells N
write_cell same cells m x v = λ n y. if same m n && bytes_eq x y then Some v else cells n y

abbrev pub or_function : {N : Type 0} → Option (values.Value N) → N → ℕ → values.Value N
or_function None m index = Func m index
or_function (Some v) m index = v

-- ECMA-262, InitializeEnvironment of a Source Text Module Record: `const` and `let` are unset at first, and functions
-- are set with the scope
abbrev pub cell_by : {N : Type 0} → Option Initial → Option (values.Value N) → N → Option (Cell (values.Value N))
cell_by None written m = None
cell_by (Some (initially.Unset constant)) written m = Some (record { constant = constant; value = written })
cell_by (Some (initially.FunctionAt index)) written m =
    Some (record { constant = false; value = Some (or_function written m index) })

-- the cell of a name that the module itself declares
abbrev pub cell_at : {N : Type 0} → Modules N → Cells N → N → List ℕ → Option (Cell (values.Value N))
cell_at g cells m x = cell_by (initial (g.tree m) x) (cells m x) m

-- what reading a name gives: its value, or that it isn't set, or isn't declared
pub data Reading (V : Type 0) : Type 0 where
  Value : (v : V) → Reading V
  Unset : Reading V
  Undeclared : Reading V

abbrev pub read_value : {V : Type 0} → Option V → Reading V
read_value None = Unset
read_value (Some v) = Value v

-- ECMA-262, GetBindingValue of a Declarative Environment Record
abbrev pub read_cell : {V : Type 0} → Option (Cell V) → Reading V
read_cell None = Undeclared
read_cell (Some c) = read_value c.value
