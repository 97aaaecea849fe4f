-- Records that may be linked, with their trees.
use Rattle.std.specs.Prelude.{◌≡◌, ◌<◌, ℕ, false, List, length, All}
use Rattle.esm_tree.specs.Syntax.{Parts}
use Rattle.esm_ast.specs.Entries.{entries_of}
use Rattle.esm_ast.specs.Spelled.{AreSpelled}
use Rattle.esm_realm.specs.Sound.{RecordParts, IsSound}
use Rattle.esm_realm.specs.ById.{status_of, entries_at, is_linking}
use Rattle.esm_link.specs.Realm.{items_at}

pub record IsBuilt (trees : List Parts) (rs : List RecordParts) : Type 0 where
  pub sound : IsSound rs
  -- each tree was read, and its entries are those of its record
  pub spelled : All (λ (t : Parts). AreSpelled t.items) trees
  pub as_many : length trees ≡ length rs
  pub entries : (x : ℕ) → x < length rs → entries_at rs x ≡ entries_of (items_at trees x)
  pub idle : (x : ℕ) → is_linking (status_of rs x) ≡ false
