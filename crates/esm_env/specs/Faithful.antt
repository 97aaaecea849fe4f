-- Scopes that were made from the trees of modules, with their imports bound as linking binds them.
use Rattle.std.specs.Prelude.{◌≡◌, ℕ, Bool, true, false, List, Option, Some, None, is_some}
use Rattle.std.specs.Arc.{arc_value}
use Rattle.esm_ast.specs.declared.entries.ImportEntry.{ImportEntry}
use Rattle.esm_resolve.specs.Graph.{IsSound}
use Rattle.esm_env.specs.Declarations.{Initial, Unset, FunctionAt, initial}
use Rattle.esm_values.specs.Value.{Func, Namespace}
use Rattle.esm_values.specs.Code.{value_of}
use Rattle.esm_env.specs.Modules.{Modules, graph}
use Rattle.esm_env.specs.Bindings as names
use Rattle.esm_env.specs.Bindings.{Binds, import_as}
use Rattle.esm_env.specs.Slots.{slot_in, valued_by}
use Rattle.esm_env.specs.Scopes.{Scopes, scope_in, import_in, cells_of}
use Rattle.esm_env.specs.declared.slots.Slot.{Slot}
use Rattle.esm_env.specs.declared.scope.Target.{Target}
use Rattle.esm_env.specs.declared.scope.Target.TheVariants as targets
use Rattle.esm_env.specs.declared.scope.ModuleScope.{ModuleScope}

-- a slot begins as the tree says
abbrev pub SlotFits : ℕ → Option Slot → Option Initial → Type 0
SlotFits m None None = Unit {0}
SlotFits m None (Some i) = ⊥
SlotFits m (Some s) None = ⊥
SlotFits m (Some s) (Some (Unset constant)) = (s.constant ≡ constant) × (s.function ≡ None)
SlotFits m (Some s) (Some (FunctionAt index)) = (s.constant ≡ false) × (valued_by s.function ≡ Some (Func m index))

abbrev pub target_in : Option Target → Option (names.Target ℕ)
target_in None = None
target_in (Some (targets.Cell m x)) = Some (names.CellOf m.0 x)
target_in (Some (targets.Whole m)) = Some (names.WholeOf m.0)

-- what an import is bound to has a scope. A module whose linking was refused may have one in which this isn't so
abbrev pub HasScope : Scopes → Option Target → Type 0
HasScope e None = Unit {0}
HasScope e (Some (targets.Cell m x)) = (s : ModuleScope) × (scope_in e m.0 ≡ Some s)
HasScope e (Some (targets.Whole m)) = (s : ModuleScope) × (scope_in e m.0 ≡ Some s)

pub record IsFaithfulAt (g : Modules ℕ) (m : ℕ) (s : ModuleScope) : Type 0 where
  pub slots : (x : List ℕ) → SlotFits m (slot_in s.slots.items x) (initial (g.tree m) x)
  pub bound : (x : List ℕ) → Binds g m x (target_in (import_in s.imports.items x))
  pub namespace : value_of s.namespace ≡ Namespace m

abbrev pub IsFaithful : Modules ℕ → Scopes → Type 0
IsFaithful g e = (m : ℕ) (s : ModuleScope) → scope_in e m ≡ Some s → IsFaithfulAt g m s

-- each import of the module is bound, as linking sees to: a resolution without an end is a fault of linking
abbrev pub HasImports : Modules ℕ → ℕ → ModuleScope → Type 0
HasImports g m s = (x : List ℕ) → is_some (import_in s.imports.items x) ≡ is_some (import_as g m x)

-- the scopes that were made are those of the modules. Each linked module has one, in which each import is bound, to what has a scope
pub record AreScopesOf (g : Modules ℕ) (linked : ℕ → Bool) (e : Scopes) : Type 0 where
  pub faithful : IsFaithful g e
  pub trees : (m : ℕ) (s : ModuleScope) → scope_in e m ≡ Some s → (arc_value s.tree).items ≡ g.tree m
  pub made : (m : ℕ) → linked m ≡ true → (s : ModuleScope) × (scope_in e m ≡ Some s)
  pub bound : (m : ℕ) (s : ModuleScope) → linked m ≡ true → scope_in e m ≡ Some s → (x : List ℕ) → HasScope e (import_in s.imports.items x)
  pub imports : (m : ℕ) (s : ModuleScope) → linked m ≡ true → scope_in e m ≡ Some s → HasImports g m s
  -- all that its imports lead to is there
  pub inside : (m : ℕ) (s : ModuleScope) (x : List ℕ) (i : ImportEntry) → scope_in e m ≡ Some s → import_as g m x ≡ Some i
      → IsSound (graph g) (g.number (g.target m i.request))
  -- nothing was written in a module that isn't linked
  pub unwritten : (m : ℕ) (x : List ℕ) → linked m ≡ false → cells_of e m x ≡ None

-- the same scope, but for what was written
abbrev pub IsLikeScope : Option ModuleScope → Option ModuleScope → Type 0
IsLikeScope None None = Unit {0}
IsLikeScope None (Some t) = ⊥
IsLikeScope (Some s) None = ⊥
IsLikeScope (Some s) (Some t) = (t.imports ≡ s.imports) × (t.tree ≡ s.tree) × (t.namespace ≡ s.namespace)
