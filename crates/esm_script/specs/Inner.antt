-- What private functions find and add.
use Rattle.std.specs.Prelude.{◌≡◌, ℕ, List, ◌++◌, Option, option_map}
use Rattle.std.specs.Borrow.{Bor}
use Rattle.std.specs.BTreeMap.{BTreeMap, get_by}
use Rattle.std.specs.Cmp.Lexicographic.{slice_cmp}
use Rattle.std.specs.Ordering.{nat_cmp}
use Rattle.esm_ast.specs.declared.entries.ImportEntry.{ImportEntry}
use Rattle.esm_ast.specs.Entries.{Export, locals_of, indirects_of, import_named}
use Rattle.esm_script.specs.declared.listing.Exports.{Exports}
use Rattle.esm_script.specs.declared.index.ImportIndex.{ImportIndex}

-- these exports were added
pub record Adds (old new : Exports) (es : List Export) : Type 0 where
  pub locals : new.locals.items ≡ old.locals.items ++ locals_of es
  pub indirects : new.indirects.items ≡ old.indirects.items ++ indirects_of es

-- the entry that stands under a local name
abbrev pub found_in : BTreeMap (Bor (List ℕ)) (Bor ImportEntry) → List ℕ → Option ImportEntry
found_in by_local name = option_map (λ e. e.now) (get_by (λ k. slice_cmp nat_cmp name k.now) by_local)

-- each local name leads to its import entry
abbrev pub IsIndexOf : List ImportEntry → ImportIndex → Type 0
IsIndexOf imports index = (name : List ℕ) → found_in index.by_local name ≡ import_named imports name
