-- Laws of the definitions, over modules with numbers.
use Rattle.std.specs.Prelude.{◌≡◌, ℕ, nat_eq, Bool, List, Contains, Option, Some}
use Rattle.esm_tree.specs.Syntax.{Item}
use Rattle.esm_base.specs.declared.module_id.ModuleId.{ModuleId}
use Rattle.esm_values.specs.Value.{Value, Func}
use Rattle.esm_values.specs.Code.{CodeValue, value_of}
use Rattle.esm_values.specs.declared.value.Value as code
use Rattle.esm_env.specs.Declarations.{Unset, FunctionAt, initial}
use Rattle.esm_ast.specs.declared.entries.LocalExport.{LocalExport}
use Rattle.esm_env.specs.Modules.{Modules, entries}
use Rattle.esm_env.specs.Cells.{Cell, Cells, no_cells, write_cell, Reading}
use Rattle.esm_env.specs.Cells.{Reading as reading}
use Rattle.esm_env.specs.Bindings.{Target, Binds, own_by}
use Rattle.esm_env.specs.Reading.{IsReadingOf, IsMemberOf, read_member}
use Rattle.esm_env.specs.Writing.{writing_of}
use Rattle.esm_env.specs.Slots.{slot_in}
use Rattle.esm_env.specs.Scopes.{Scopes, scope_in, own_cell, import_of, cells_of, read_in, read_end_in, defined}
use Rattle.esm_env.specs.Calls.{IsWrittenIn, IsWrittenAt, IsInitialised, told_write}
use Rattle.esm_env.specs.Placed.{place_of}
use Rattle.esm_env.specs.Makes.{slots_for}
use Rattle.esm_env.specs.Faithful.{IsFaithful, HasScope, HasImports, IsLikeScope, SlotFits}
use Rattle.esm_env.specs.declared.scope.ModuleScope.{ModuleScope}
use Rattle.esm_env.specs.declared.scope.Wrote.{Wrote}

-- an import is bound to one thing at most, and a name, and a member of a namespace, reads as one thing
pub record ReadsOne : Type 0 where
  pub one_binding : (g : Modules ℕ) (m : ℕ) (x : List ℕ) (one other : Option (Target ℕ))
      → Binds g m x one → Binds g m x other → one ≡ other
  pub one_reading : (g : Modules ℕ) (cells : Cells ℕ) (m : ℕ) (x : List ℕ) (one other : Reading (Value ℕ))
      → IsReadingOf g cells m x one → IsReadingOf g cells m x other → one ≡ other
  pub one_member : (g : Modules ℕ) (cells : Cells ℕ) (m : ℕ) (x : List ℕ) (one other : Reading (Value ℕ))
      → IsMemberOf g cells m x one → IsMemberOf g cells m x other → one ≡ other

-- what the code reads is what the name reads as, where an import of this name is bound to what has a scope
abbrev pub ReadsRight : Type 0
ReadsRight = (g : Modules ℕ) (e : Scopes) (m : ℕ) (s : ModuleScope) (x : List ℕ)
    → IsFaithful g e → scope_in e m ≡ Some s → HasScope e (import_of (scope_in e m) x)
    → IsReadingOf g (cells_of e) m x (read_in e m x)

-- a scope that was made from the tree fits it
abbrev pub MadeFits : Type 0
MadeFits = (m : ModuleId) (items : List Item) (x : List ℕ) → SlotFits m.0 (slot_in (slots_for m items) x) (initial items x)

-- before anything is written, a `const` or `let` of a module is unset, and a function is set
pub record BeginsUnset : Type 0 where
  pub unset : (g : Modules ℕ) (m : ℕ) (x : List ℕ) (constant : Bool)
      → initial (g.tree m) x ≡ Some (Unset constant) → IsReadingOf g no_cells m x reading.Unset
  pub function : (g : Modules ℕ) (m : ℕ) (x : List ℕ) (index : ℕ)
      → initial (g.tree m) x ≡ Some (FunctionAt index) → IsReadingOf g no_cells m x (reading.Value (Func m index))

-- what the code's writes come to, over scopes that fit the trees
pub record WritesRight : Type 0 where
  -- a write of a name of a module that has a scope, in which each of its imports is bound, is its writing
  pub writes : (g : Modules ℕ) (e late : Scopes) (m : ℕ) (s : ModuleScope) (x : List ℕ) (v : code.Value) (result : Wrote)
      → IsFaithful g e → scope_in e m ≡ Some s → HasImports g m s → IsWrittenIn e m x v result late
      → told_write result late ≡ writing_of nat_eq g (cells_of e) m x (value_of v)
  -- where a name that the module declares is set, its cell is written, and no other
  pub sets : (e late : Scopes) (m : ℕ) (x : List ℕ) (v : code.Value) (c : Cell CodeValue)
      → own_cell e m x ≡ Some c → IsInitialised e m x v late → cells_of late ≡ write_cell nat_eq (cells_of e) m x (value_of v)
  -- the scopes fit as before
  pub faithful_written : (g : Modules ℕ) (e late : Scopes) (m : ℕ) (x : List ℕ) (v : code.Value) (result : Wrote)
      → IsFaithful g e → IsWrittenIn e m x v result late → IsFaithful g late
  pub faithful_set : (g : Modules ℕ) (e late : Scopes) (m : ℕ) (x : List ℕ) (v : code.Value)
      → IsFaithful g e → IsInitialised e m x v late → IsFaithful g late
  -- what was made stays made, with its imports, its tree and its namespace
  pub stays_written : (e late : Scopes) (m : ℕ) (x : List ℕ) (v : code.Value) (result : Wrote)
      → IsWrittenIn e m x v result late → (n : ℕ) → IsLikeScope (scope_in e n) (scope_in late n)
  pub stays_set : (e late : Scopes) (m : ℕ) (x : List ℕ) (v : code.Value)
      → IsInitialised e m x v late → (n : ℕ) → IsLikeScope (scope_in e n) (scope_in late n)

-- what the place of a name has to do with the name
pub record PlacesRight : Type 0 where
  -- a place is that of one name at most
  pub once : (e : Scopes) (m place : ℕ) (x y : List ℕ) → place_of e m x ≡ Some place → place_of e m y ≡ Some place → x ≡ y
  -- the write at the place of a name is the write of the name, and the other way round
  pub is_write : (e late : Scopes) (m place : ℕ) (x : List ℕ) (v : code.Value) (result : Wrote)
      → place_of e m x ≡ Some place → IsWrittenAt e m place v result late → IsWrittenIn e m x v result late
  pub is_write_at : (e late : Scopes) (m place : ℕ) (x : List ℕ) (v : code.Value) (result : Wrote)
      → place_of e m x ≡ Some place → IsWrittenIn e m x v result late → IsWrittenAt e m place v result late
  -- a write at a place that no name has writes no cell
  pub unnamed : (e late : Scopes) (m place : ℕ) (v : code.Value) (result : Wrote)
      → ((x : List ℕ) → place_of e m x ≡ Some place → ⊥) → IsWrittenAt e m place v result late → cells_of late ≡ cells_of e
  -- whatever has the place, the scopes fit as before, and what was made stays made, with its imports, its tree and its namespace
  pub faithful : (g : Modules ℕ) (e late : Scopes) (m place : ℕ) (v : code.Value) (result : Wrote)
      → IsFaithful g e → IsWrittenAt e m place v result late → IsFaithful g late
  pub stays : (e late : Scopes) (m place : ℕ) (v : code.Value) (result : Wrote)
      → IsWrittenAt e m place v result late → (n : ℕ) → IsLikeScope (scope_in e n) (scope_in late n)

-- what the code reads at the end of a resolution, a local export of a module that has a scope, is the member
abbrev pub EndsRight : Type 0
EndsRight = (g : Modules ℕ) (e : Scopes) (m : ℕ) (s : ModuleScope) (l : LocalExport)
    → IsFaithful g e → scope_in e m ≡ Some s → HasScope e (import_of (scope_in e m) l.local) → Contains (entries g m).locals l
    → defined (read_end_in e m l.local) ≡ read_member g (cells_of e) (own_by g m l.local (initial (g.tree m) l.local))
