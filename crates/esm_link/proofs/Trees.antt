-- Trees that aren't there have no entries.
use Rattle.std.proofs.Common.{◌≡◌, ℕ, zero, suc, ◌≤◌, List, [], ◌∷◌, length, None, refl, arith}
use Rattle.std.proofs.Common.{◌<◌, Some, map, get_or, subst, sym, ap, ◌∙◌}
use Rattle.std.proofs.lemmas.Option.{slice_get-map}
use Rattle.std.proofs.lemmas.List.{length-map}
use Rattle.std.specs.Arc.{arc_value}
use Rattle.std.specs.Option.{option_map}
use Rattle.std.specs.Prelude.{slice_get, ◌^◌}
use Rattle.std.specs.declared.alloc.Global.{Global}
use Rattle.std.specs.declared.sync.Arc.{Arc}
use Rattle.esm_tree.specs.Syntax.{Parts}
use Rattle.esm_realm.specs.Sound.{RecordParts}
use Rattle.esm_realm.proofs.ByIds.{at_index, holds_at}
use Rattle.esm_link.specs.Realm.{AreTrees}
use Rattle.esm_ast.specs.Entries.{entries_of, entries_with, no_entries, requests_after, all_imports, all_exports, locals_of, indirects_of, stars_of}

pub past : {A : Type 0} (xs : List A) (k : ℕ) → length xs ≤ k → slice_get xs k ≡ None
past [] k le = refl
past (x ∷ xs) zero le = absurd (omega (arith, le))
past (x ∷ xs) (suc k) le = past xs k (omega (arith, le))

pub no_items : entries_of [] ≡ no_entries
unfolding entries_of entries_with requests_after all_imports all_exports locals_of indirects_of stars_of
no_items = refl

-- ---- the trees in memory

module _ (ts : List (Arc Parts Global)) (rs : List RecordParts) (are : AreTrees (map arc_value ts) rs) (x : ℕ) where
  pub tree_within : x < length rs → x < length ts
  tree_within lt = subst (λ n. x < n) (sym are.as_many ∙ length-map ts arc_value) lt

  pub tree_at : (t : Arc Parts Global) → x < length rs → t ≡ get_or ts x t → slice_get (map arc_value ts) x ≡ Some (arc_value t)
  tree_at t lt is = slice_get-map arc_value ts x ∙ ap (option_map arc_value) (at_index ts x t (tree_within lt) is)

  pub few_at : (t : Arc Parts Global) → x < length rs → t ≡ get_or ts x t → length (arc_value t).items < 2 ^ 31
  few_at t lt is = holds_at (λ (t : Parts). length t.items < 2 ^ 31) (map arc_value ts) x (arc_value t) are.few_items (tree_at t lt is)
