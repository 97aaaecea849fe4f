-- Code under way makes no scope of a module.
use Rattle.std.specs.Prelude.{◌≡◌, ℕ, is_some}
use Rattle.esm_env.specs.Scopes.{Scopes, scope_in}

-- the same modules have scopes
abbrev pub HaveSameScopes : Scopes → Scopes → Type 0
HaveSameScopes e after = (m : ℕ) → is_some (scope_in after m) ≡ is_some (scope_in e m)
