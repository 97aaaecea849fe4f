-- Writing the names of a module.
use Rattle.std.specs.Prelude.{ℕ, Bool, true, false, List, Option, Some, None, is_some}
use Rattle.esm_values.specs.Value.{Value}
use Rattle.esm_env.specs.Modules.{Modules}
use Rattle.esm_env.specs.Bindings.{import_as}
use Rattle.esm_env.specs.Cells.{Cell, Cells, cell_at, write_cell}

-- what an assignment comes to
pub data Writing (N : Type 0) : Type 0 where
  Done : (cells : Cells N) → Writing N
  Unset : Writing N
  Constant : Writing N
  Undeclared : Writing N

-- that a cell is unset is told before that it is a constant
abbrev pub write_by : {N : Type 0} → Cells N → Bool → Option (Value N) → Writing N
write_by written constant None = Unset
write_by written true (Some v) = Constant
write_by written false (Some v) = Done written

abbrev pub constant_by : {N : Type 0} → Bool → Writing N
constant_by true = Constant
constant_by false = Undeclared

abbrev pub write_at : {N : Type 0} → Cells N → Option (Cell (Value N)) → Bool → Writing N
write_at written (Some c) imports = write_by written c.constant c.value
write_at written None imports = constant_by imports

-- ECMA-262, SetMutableBinding of a Module Environment Record: an import is constant, whether its target is set or not
abbrev pub writing_of : {N : Type 0} → (N → N → Bool) → Modules N → Cells N → N → List ℕ → Value N → Writing N
writing_of same g cells m x v = write_at (write_cell same cells m x v) (cell_at g cells m x) (is_some (import_as g m x))
