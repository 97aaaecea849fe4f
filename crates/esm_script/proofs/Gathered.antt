-- The entries of a tree, part by part.
use Rattle.std.proofs.Common.{◌≡◌, List, ap, ◌∙◌}
use Rattle.std.specs.List.{list_any}
use Rattle.esm_tree.specs.Syntax.{Item}
use Rattle.esm_base.specs.Urls.{Text}
use Rattle.esm_ast.specs.declared.entries.ImportEntry.{ImportEntry}
use Rattle.esm_ast.specs.Entries.{EntryLists, requests_of, all_imports, all_exports, locals_of, indirects_of, stars_of, item_awaits, entries_with, entries_of}

-- each part is that of the tree
pub record AreParts (e : EntryLists) (requests : List Text) (imports : List ImportEntry) (xs : List Item) : Type 0 where
  pub requests_are : e.requests ≡ requests
  pub imports_are : e.imports ≡ imports
  pub locals_are : e.locals ≡ locals_of (all_exports requests imports xs)
  pub indirects_are : e.indirects ≡ indirects_of (all_exports requests imports xs)
  pub stars_are : e.stars ≡ stars_of requests xs
  pub awaits_is : e.awaits ≡ list_any item_awaits xs

pub parts_are : (e : EntryLists) (requests : List Text) (imports : List ImportEntry) (xs : List Item) → AreParts e requests imports xs → requests ≡ requests_of xs → imports ≡ all_imports requests xs → e ≡ entries_of xs
unfolding entries_with entries_of
parts_are e requests imports xs p rs is =
    let whole : e ≡ entries_with requests imports xs = λ j. record {
      requests = p.requests_are j;
      imports = p.imports_are j;
      locals = p.locals_are j;
      indirects = p.indirects_are j;
      stars = p.stars_are j;
      awaits = p.awaits_is j;
    } in
    whole ∙ ap (λ m. entries_with requests m xs) is ∙ ap (λ r. entries_with r (all_imports r xs) xs) rs
