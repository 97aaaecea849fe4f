-- Reading the names of a module. An import is read, at that moment, where it resolves to.
use Rattle.std.specs.Prelude.{◌≡◌, ℕ, List, Option, Some, None}
use Rattle.esm_resolve.specs.declared.graph.Resolution.{Resolution}
use Rattle.esm_values.specs.Value.{Value, Namespace, Undefined}
use Rattle.esm_env.specs.Modules.{Modules, Exports}
use Rattle.esm_env.specs.Bindings.{Target, CellOf, WholeOf, Binds, target_of}
use Rattle.esm_env.specs.Cells.{Cell, Cells, cell_at, Reading, read_cell}
use Rattle.esm_env.specs.Cells.{Reading as reading}

module _ {N : Type 0} (g : Modules N) (cells : Cells N) where
  abbrev pub read_target : Option (Target N) → Reading (Value N)
  read_target None = reading.Undeclared
  read_target (Some (CellOf m x)) = read_cell (cell_at g cells m x)
  read_target (Some (WholeOf m)) = reading.Value (Namespace m)

  -- ECMA-262, GetBindingValue of a Module Environment Record: the module's own names, then its imports
  pub data IsReadingOf (m : N) (x : List ℕ) : Reading (Value N) → Type 0 where
    own : (c : Cell (Value N)) → cell_at g cells m x ≡ Some c → IsReadingOf m x (read_cell (Some c))
    bound : {t : Option (Target N)} → cell_at g cells m x ≡ None → Binds g m x t → IsReadingOf m x (read_target t)

  abbrev pub read_member : Option (Target N) → Reading (Value N)
  read_member None = reading.Value Undefined
  read_member (Some t) = read_target (Some t)

  -- ECMA-262, [[Get]] of a module namespace exotic object: a name that denotes one binding is read there, another is
  -- undefined
  pub data IsMemberOf (m : N) (x : List ℕ) : Reading (Value N) → Type 0 where
    member : (r : Resolution) → Exports g m x r → IsMemberOf m x (read_member (target_of g r))
