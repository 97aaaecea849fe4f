-- What the answers of the code tell.
use Rattle.std.specs.Prelude.{◌≡◌, ℕ, List, Option, Some, None}
use Rattle.esm_env.specs.declared.envs.Envs.{Envs}
use Rattle.std.specs.Borrow.{Bor}
use Rattle.esm_values.specs.Code.{CodeValue, value_of}
use Rattle.esm_values.specs.declared.value.Value.{Value}
use Rattle.esm_env.specs.Cells.{Reading, read_cell}
use Rattle.esm_env.specs.Cells.{Reading as reading}
use Rattle.esm_env.specs.Scopes.{Scopes, scope_in, own_cell, import_of, cells_of, IsWritten, IsWrittenPlace, StaysOrWrites}
use Rattle.esm_env.specs.Writing.{Writing}
use Rattle.esm_env.specs.Writing.{Writing as writing}
use Rattle.esm_env.specs.declared.scope.ModuleScope.{ModuleScope}
use Rattle.esm_env.specs.declared.scope.Target.{Target}
use Rattle.esm_env.specs.declared.scope.Read.{Read}
use Rattle.esm_env.specs.declared.scope.Read.TheVariants as reads
use Rattle.esm_env.specs.declared.scope.Wrote.{Wrote}
use Rattle.esm_env.specs.declared.scope.Wrote.TheVariants as wrote

abbrev pub told_read : Read → Reading CodeValue
told_read (reads.Value r) = reading.Value (value_of r.now)
told_read reads.Unset = reading.Unset
told_read reads.Undeclared = reading.Undeclared

abbrev pub IsScope : Scopes → ℕ → Option (Bor ModuleScope) → Type 0
IsScope e m None = scope_in e m ≡ None
IsScope e m (Some r) = scope_in e m ≡ Some r.now

abbrev pub IsTarget : Scopes → ℕ → List ℕ → Option (Bor Target) → Type 0
IsTarget e m x None = import_of (scope_in e m) x ≡ None
IsTarget e m x (Some r) = import_of (scope_in e m) x ≡ Some r.now

abbrev pub read_own : Scopes → ℕ → List ℕ → Reading CodeValue
read_own e m x = read_cell (own_cell e m x)

abbrev pub IsWrittenBy : Option ModuleScope → List ℕ → Value → Wrote → Option ModuleScope → Type 0
IsWrittenBy None x v result new = (result ≡ wrote.Undeclared) × (new ≡ None)
IsWrittenBy (Some s) x v result None = ⊥
IsWrittenBy (Some s) x v result (Some t) = IsWritten s x v result t

-- a write changes at most the scope of its module
abbrev pub IsWrittenIn : Scopes → ℕ → List ℕ → Value → Wrote → Scopes → Type 0
IsWrittenIn old m x v result new = IsWrittenBy (scope_in old m) x v result (scope_in new m) × ((n : ℕ) → (n ≡ m → ⊥) → scope_in new n
    ≡ scope_in old n)

abbrev pub IsWrittenPlaceBy : Option ModuleScope → ℕ → Value → Wrote → Option ModuleScope → Type 0
IsWrittenPlaceBy None place v result new = (result ≡ wrote.Undeclared) × (new ≡ None)
IsWrittenPlaceBy (Some s) place v result None = ⊥
IsWrittenPlaceBy (Some s) place v result (Some t) = IsWrittenPlace s place v result t

-- a write at a place of a module changes at most what stands there. Where nothing does, it is undeclared
abbrev pub IsWrittenAt : Scopes → ℕ → ℕ → Value → Wrote → Scopes → Type 0
IsWrittenAt old m place v result new = IsWrittenPlaceBy (scope_in old m) place v result (scope_in new m)
    × ((n : ℕ) → (n ≡ m → ⊥) → scope_in new n ≡ scope_in old n)

-- for each module its scope, if it was made
abbrev pub scopes_of : Envs → Scopes
scopes_of e = e.scopes.items

abbrev pub IsSetBy : Option ModuleScope → List ℕ → Value → Option ModuleScope → Type 0
IsSetBy None x v new = new ≡ None
IsSetBy (Some s) x v None = ⊥
IsSetBy (Some s) x v (Some t) = StaysOrWrites s x v wrote.Done t

-- a declaration sets its name in the scope of its module
abbrev pub IsInitialised : Scopes → ℕ → List ℕ → Value → Scopes → Type 0
IsInitialised old m x v new = IsSetBy (scope_in old m) x v (scope_in new m) × ((n : ℕ) → (n ≡ m → ⊥) → scope_in new n ≡ scope_in old n)

-- what a write came to, where these are the scopes then
abbrev pub told_write : Wrote → Scopes → Writing ℕ
told_write wrote.Done e = writing.Done (cells_of e)
told_write wrote.Unset e = writing.Unset
told_write wrote.Constant e = writing.Constant
told_write wrote.Undeclared e = writing.Undeclared
