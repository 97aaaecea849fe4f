-- The display text of a value, as a public call tells it.
use Rattle.std.specs.Prelude.{◌≡◌, ℕ, Bool, List}
use Rattle.esm_values.specs.Code.{CodeValue}
use Rattle.esm_values.specs.Errors.{Errors}
use Rattle.esm_env.specs.Faithful.{AreScopesOf}
use Rattle.esm_env.specs.Modules.{Modules}
use Rattle.esm_env.specs.Scopes.{Scopes}
use Rattle.esm_rewriting.specs.Acts.{Displays}
use Rattle.esm_rewriting.specs.Fits.{AreLinked, IsKnown}
use Rattle.esm_rewriting.specs.State.{State}

module _ {S : Type 0} (modules : S → Modules ℕ) (linked : S → ℕ → Bool) where
  -- where the value is known over linked modules, whose scopes these are, it is displayed so in each state with these errors and modules
  abbrev pub IsDisplayText : Scopes → Errors → S → CodeValue → List ℕ → Type 0
  IsDisplayText e errors i v text = AreScopesOf (modules i) (linked i) e → AreLinked (modules i) (linked i)
      → IsKnown (modules i) (linked i) v
      → (w : State ℕ S) → w.outer.errors ≡ errors → w.outer.imports ≡ i → Displays modules w v text
