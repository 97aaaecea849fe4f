-- The places of the names that modules declare.
use Rattle.std.specs.Prelude.{ℕ, List, map, Option, Some, None}
use Rattle.esm_env.specs.NamePlaces.{first_place}
use Rattle.esm_env.specs.Scopes.{Scopes, scope_in}
use Rattle.esm_env.specs.declared.scope.ModuleScope.{ModuleScope}

-- the names that a scope declares, in order
abbrev pub names_of : ModuleScope → List (List ℕ)
names_of s = map (λ t. t.name) s.slots.items

abbrev pub place_by : Option ModuleScope → List ℕ → Option ℕ
place_by None x = None
place_by (Some s) x = first_place (names_of s) x

-- the place of a name among those that the module itself declares
abbrev pub place_of : Scopes → ℕ → List ℕ → Option ℕ
place_of e m x = place_by (scope_in e m) x
