-- What was read meets the conditions of linking.
use Rattle.std.specs.Prelude.{◌≡◌, ◌<◌, ◌^◌, ℕ, List, length, All}
use Rattle.esm_tree.specs.Syntax.{Item, Parts}
use Rattle.esm_ast.specs.Entries.{entries_of}
use Rattle.esm_ast.specs.Spelled.{AreSpelled}
use Rattle.esm_realm.specs.Sound.{RecordParts}
use Rattle.esm_realm.specs.ById.{entries_at}
use Rattle.esm_link.specs.Realm.{items_at, BindsOwnExports, AreTrees}

pub record SpelledIsBound : Type 0 where
  -- ECMA-262, early errors of a module: what it exports as its own is declared once
  pub exports : (items : List Item) → AreSpelled items → BindsOwnExports items
  pub few_items : (items : List Item) → AreSpelled items → length items < 2 ^ 31
  -- so trees that were read are the trees of their records
  pub trees : (trees : List Parts) (rs : List RecordParts) → length trees ≡ length rs
      → ((x : ℕ) → x < length rs → entries_at rs x ≡ entries_of (items_at trees x))
      → All (λ (t : Parts). AreSpelled t.items) trees → AreTrees trees rs
