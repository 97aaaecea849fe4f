-- The slots of a module's names, from its tree.
use Rattle.std.specs.Borrow.{Bor}
use Rattle.std.specs.Arc.{arc_value}
use Rattle.esm_values.specs.Value.{Namespace}
use Rattle.esm_values.specs.Code.{value_of}
use Rattle.esm_env.specs.declared.scope.Target.{Target}
use Rattle.esm_env.specs.declared.scope.ModuleScope.{ModuleScope}
use Rattle.std.specs.Prelude.{ℕ, ◌+◌, ◌≡◌, false, List, [], ◌∷◌, ◌++◌, map, Option, Some, None}
use Rattle.esm_tree.specs.Syntax.{Item, Parts}
use Rattle.esm_env.specs.Declarations.{Declaration, FunctionCode, declared_in, body_of, functions_by}
use Rattle.esm_values.specs.declared.value.Value.TheVariants as v
use Rattle.esm_base.specs.declared.module_id.ModuleId.{ModuleId}
use Rattle.esm_env.specs.Scopes.{Scopes, scope_in}
use Rattle.esm_env.specs.declared.slots.Slot.{Slot}

-- a name that isn't set
abbrev pub unset_slot : Declaration → Slot
unset_slot d = record { name = d.name; constant = d.constant; function = None; written = None }

abbrev pub unset_slots : List Declaration → List Slot
unset_slots ds = map unset_slot ds

-- the function with this number
abbrev pub function_slot : ModuleId → ℕ → List ℕ → Slot
function_slot m index name = record {
  name = name;
  constant = false;
  function =
      Some (v.Func (record { «module» = m; index = index }));
  written = None;
}

abbrev pub function_slots : ModuleId → ℕ → List (List ℕ) → List Slot
function_slots m index [] = []
function_slots m index (name ∷ names) = function_slot m index name ∷ function_slots m (index + 1) names

abbrev pub names_by : Item → List (List ℕ)
names_by item = map (λ (f : FunctionCode). f.name) (functions_by item)

-- the names of a module's functions, in order
abbrev pub function_names : List Item → List (List ℕ)
function_names [] = []
function_names (item ∷ items) = names_by item ++ function_names items

-- the names of a module: those that its statements declare, then its functions
abbrev pub slots_for : ModuleId → List Item → List Slot
slots_for m items = unset_slots (declared_in (body_of items)) ++ function_slots m 0 (function_names items)

abbrev pub one_name : Option (Bor (List ℕ)) → List (List ℕ)
one_name None = []
one_name (Some r) = r.now ∷ []

-- the scope of a module that was made from its tree, which it keeps
abbrev pub IsMade : ModuleId → Parts → List (List ℕ × Target) → Option ModuleScope → Type 0
IsMade m tree imports None = ⊥
IsMade m tree imports (Some s) = (s.slots.items ≡ slots_for m tree.items) × (s.imports.items ≡ imports) × (arc_value s.tree ≡ tree)
    × (value_of s.namespace ≡ Namespace m.0)

-- nothing but the scope of the module has changed
abbrev pub OthersStay : Scopes → ℕ → Scopes → Type 0
OthersStay old m new = (n : ℕ) → (n ≡ m → ⊥) → scope_in new n ≡ scope_in old n
