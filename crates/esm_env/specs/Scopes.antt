-- What the code keeps of modules, and what that comes to.
use Rattle.std.specs.Prelude.{◌≡◌, ℕ, zero, suc, Bool, true, false, List, [], ◌∷◌, slice_get, Option, Some, None, is_some}
use Rattle.std.specs.Borrow.{Bor}
use Rattle.std.specs.Str.{bytes_eq}
use Rattle.esm_values.specs.Value.{Undefined}
use Rattle.esm_values.specs.Code.{CodeValue, value_of}
use Rattle.esm_values.specs.declared.value.Value.{Value}
use Rattle.esm_env.specs.Cells.{Cell, Cells, Reading, read_cell}
use Rattle.esm_env.specs.Cells.{Reading as reading}
use Rattle.esm_env.specs.Slots.{place_in, slot_in, cell_in, written_in, write_slot}
use Rattle.esm_env.specs.declared.slots.Slot.{Slot}
use Rattle.esm_env.specs.declared.scope.Target.{Target}
use Rattle.esm_env.specs.declared.scope.Target.TheVariants as targets
use Rattle.esm_env.specs.declared.scope.Wrote.{Wrote}
use Rattle.esm_env.specs.declared.scope.Wrote.TheVariants as wrote
use Rattle.esm_env.specs.declared.scope.ModuleScope.{ModuleScope}

abbrev pub import_by : Bool → Target → Option Target → Option Target
import_by true t later = Some t
import_by false t later = later

-- the import with a name
abbrev pub import_in : List (List ℕ × Target) → List ℕ → Option Target
import_in [] x = None
import_in (i ∷ is) x = import_by (bytes_eq i.0 x) i.1 (import_in is x)

abbrev pub IsImport : List (List ℕ × Target) → List ℕ → Option (Bor Target) → Type 0
IsImport is x None = import_in is x ≡ None
IsImport is x (Some r) = import_in is x ≡ Some r.now

-- the scope with one slot written
abbrev pub written_scope : ModuleScope → ℕ → Value → List Slot
written_scope s at v = write_slot s.slots.items at v

abbrev pub wrote_set : Bool → Option CodeValue → Wrote
wrote_set constant None = wrote.Unset
wrote_set true (Some v) = wrote.Constant
wrote_set false (Some v) = wrote.Done

abbrev pub wrote_none : Bool → Wrote
wrote_none true = wrote.Constant
wrote_none false = wrote.Undeclared

-- an unset cell is told before a constant one
abbrev pub wrote_by : Option (Cell CodeValue) → Bool → Wrote
wrote_by (Some c) imports = wrote_set c.constant c.value
wrote_by None imports = wrote_none imports

-- where a write is done, the slot at the place is written, and nothing changes otherwise
abbrev pub StaysOrWritesAt : ModuleScope → ℕ → Value → Wrote → ModuleScope → Type 0
StaysOrWritesAt old place v wrote.Done new = (new.slots.items ≡ written_scope old place v) × (new.imports ≡ old.imports)
    × (new.tree ≡ old.tree) × (new.namespace ≡ old.namespace)
StaysOrWritesAt old place v wrote.Unset new = new ≡ old
StaysOrWritesAt old place v wrote.Constant new = new ≡ old
StaysOrWritesAt old place v wrote.Undeclared new = new ≡ old

-- likewise at the place of a name
abbrev pub StaysOrWrites : ModuleScope → List ℕ → Value → Wrote → ModuleScope → Type 0
StaysOrWrites old x v result new = StaysOrWritesAt old (place_in old.slots.items x) v result new

-- what a write of a name of the scope comes to
abbrev pub IsWritten : ModuleScope → List ℕ → Value → Wrote → ModuleScope → Type 0
IsWritten old x v result new = (result ≡ wrote_by (cell_in (slot_in old.slots.items x)) (is_some (import_in old.imports.items x)))
    × StaysOrWrites old x v result new

-- what a write at a place comes to, whether a name has it or not: that of the slot there. No import has a place
abbrev pub IsWrittenPlace : ModuleScope → ℕ → Value → Wrote → ModuleScope → Type 0
IsWrittenPlace old place v result new = (result ≡ wrote_by (cell_in (slice_get old.slots.items place)) false)
    × StaysOrWritesAt old place v result new

-- ---- all modules

abbrev pub Scopes : Type 0
Scopes = List (Option ModuleScope)

abbrev pub scope_in : Scopes → ℕ → Option ModuleScope
scope_in [] m = None
scope_in (s ∷ ss) zero = s
scope_in (s ∷ ss) (suc m) = scope_in ss m

abbrev pub cell_by : Option ModuleScope → List ℕ → Option (Cell CodeValue)
cell_by None x = None
cell_by (Some s) x = cell_in (slot_in s.slots.items x)

-- the cell of a name that the module itself declares
abbrev pub own_cell : Scopes → ℕ → List ℕ → Option (Cell CodeValue)
own_cell e m x = cell_by (scope_in e m) x

abbrev pub written_by : Option ModuleScope → List ℕ → Option CodeValue
written_by None x = None
written_by (Some s) x = written_in (slot_in s.slots.items x)

-- what was written
abbrev pub cells_of : Scopes → Cells ℕ
cells_of e = λ m x. written_by (scope_in e m) x

abbrev pub import_of : Option ModuleScope → List ℕ → Option Target
import_of None x = None
import_of (Some s) x = import_in s.imports.items x

abbrev pub whole_of : Option ModuleScope → Reading CodeValue
whole_of None = reading.Undeclared
whole_of (Some s) = reading.Value (value_of s.namespace)

abbrev pub read_import : Scopes → Option Target → Reading CodeValue
read_import e None = reading.Undeclared
read_import e (Some (targets.Cell m y)) = read_cell (own_cell e m.0 y)
read_import e (Some (targets.Whole m)) = whole_of (scope_in e m.0)

abbrev pub read_or : Option (Cell CodeValue) → Reading CodeValue → Reading CodeValue
read_or (Some c) later = read_cell (Some c)
read_or None later = later

-- a name of the module, or of where its import is bound
abbrev pub read_in : Scopes → ℕ → List ℕ → Reading CodeValue
read_in e m x = read_or (own_cell e m x) (read_import e (import_of (scope_in e m) x))

-- the namespace that an import is bound to as a whole
abbrev pub read_whole : Scopes → Option Target → Reading CodeValue
read_whole e None = reading.Undeclared
read_whole e (Some (targets.Cell m y)) = reading.Undeclared
read_whole e (Some (targets.Whole m)) = whole_of (scope_in e m.0)

-- a name of the module as the end of a resolution: its own, or a namespace that it imports as a whole
abbrev pub read_end_in : Scopes → ℕ → List ℕ → Reading CodeValue
read_end_in e m x = read_or (own_cell e m x) (read_whole e (import_of (scope_in e m) x))

-- a member of a namespace that denotes nothing is undefined
abbrev pub defined : Reading CodeValue → Reading CodeValue
defined (reading.Value v) = reading.Value v
defined reading.Unset = reading.Unset
defined reading.Undeclared = reading.Value Undefined
