-- What a look-up in one map finds.
use Rattle.std.specs.Prelude.{◌≡◌, ℕ, List, take, Bool, Option, Some}
use Rattle.std.specs.Str.{IsCharBoundary}
use Rattle.url.specs.Parts.{Parts}
use Rattle.esm_import_map.specs.ImportMap.{SpecifierMap}
use Rattle.esm_base.specs.TextMap.{TextMapView, at}
use Rattle.esm_specifier.specs.Resolution.{deciding_key, deciding_scope, scope_at}

-- the first bytes of the normal text are the key that decides, and this is its address
pub record Decides (prefixes : Bool) (normal : List ℕ) (map : SpecifierMap) (key_len : ℕ) (address : Option Parts) : Type 0 where
  pub key : deciding_key prefixes normal map ≡ Some (take key_len normal)
  pub entry : at (take key_len normal) map ≡ Some address
  pub cut : IsCharBoundary normal key_len

-- the same in the scope that decides
pub record IsInScope (referrer : List ℕ) (prefixes : Bool) (normal : List ℕ) (scopes : TextMapView SpecifierMap)
    (key_len : ℕ) (address : Option Parts) : Type 0 where
  pub prefix : List ℕ
  pub scope : deciding_scope referrer prefixes normal scopes ≡ Some prefix
  pub decides : Decides prefixes normal (scope_at prefix scopes) key_len address
