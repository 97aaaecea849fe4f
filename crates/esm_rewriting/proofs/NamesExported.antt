-- The names of a module's export entries are among those that its tree exports.
use Rattle.std.proofs.Common.{ℕ, List, [], ◌∷◌, ◌++◌, map, Option, Some, None}
use Rattle.std.specs.List.{AllByRecursion}
use Rattle.esm_tree.specs.declared.node.Wanted.{Wanted}
use Rattle.esm_tree.specs.declared.node.Wanted.TheVariants as wanted
use Rattle.esm_tree.specs.declared.node.ExportSpecifier.{ExportSpecifier}
use Rattle.esm_tree.specs.Syntax.{Stmt, Empty, Expression, Assign, Block, If, IfElse, Try, TryCatch, Throw, Return, ReturnValue, Await, PrintAwait, Const, Let, Default, Item, ImportEffect, ImportFrom, ExportAll, ExportAllAs, ExportFrom, ExportList, ExportStatement, ExportFunction, ExportDefaultFunction, Function, Statement}
use Rattle.esm_base.specs.Urls.{Text}
use Rattle.esm_grammar.specs.EarlyErrors.{statement_exported, exported_of, exported_names}
use Rattle.esm_ast.specs.declared.entries.ImportEntry.{ImportEntry}
use Rattle.esm_ast.specs.Entries.{Export, Local, Indirect, listed_by, listed_by_wanted, listed, passed_on, own_export, import_named, statement_exports, exports_of, all_exports, locals_of, indirects_of, entries_with, entries_of}

module _ (P : Text → Type 0) where
  abbrev Each : List Text → Type 0
  Each xs = AllByRecursion P xs

  abbrev Of : Export → Type 0
  Of (Local l) = P l.name
  Of (Indirect i) = P i.name

  abbrev Exported : List Export → Type 0
  Exported es = AllByRecursion Of es

  both : (xs ys : List Export) → Exported xs → Exported ys → Exported (xs ++ ys)
  both [] ys h k = k
  both (x ∷ xs) ys h k = (h.0, both xs ys h.1 k)

  pub texts_both : (xs ys : List Text) → Each xs → Each ys → Each (xs ++ ys)
  texts_both [] ys h k = k
  texts_both (x ∷ xs) ys h k = (h.0, texts_both xs ys h.1 k)

  pub first_texts : (xs ys : List Text) → Each (xs ++ ys) → Each xs
  first_texts [] ys h = tt
  first_texts (x ∷ xs) ys h = (h.0, first_texts xs ys h.1)

  pub last_texts : (xs ys : List Text) → Each (xs ++ ys) → Each ys
  last_texts [] ys h = h
  last_texts (x ∷ xs) ys h = last_texts xs ys h.1

  passed : (request : ℕ) (es : List ExportSpecifier) → Each (map (λ e. e.exported) es) → Exported (map (passed_on request) es)
  passed request [] h = tt
  passed request (e ∷ es) h = (h.0, passed request es h.1)

  by_wanted : (name local : Text) (request : ℕ) (w : Wanted) → P name → Of (listed_by_wanted name local request w)
  unfolding listed_by_wanted
  by_wanted name local request (wanted.Named x) h = h
  by_wanted name local request wanted.Whole h = h

  by_import : (name local : Text) (o : Option ImportEntry) → P name → Of (listed_by name local o)
  unfolding listed_by
  by_import name local None h = h
  by_import name local (Some e) h = by_wanted name local e.request e.wanted h

  lists : (imports : List ImportEntry) (es : List ExportSpecifier) → Each (map (λ e. e.exported) es) → Exported (map (listed imports) es)
  unfolding listed
  lists imports [] h = tt
  lists imports (e ∷ es) h = (by_import e.exported e.first (import_named imports e.first) h.0, lists imports es h.1)

  owns : (xs : List Text) → Each xs → Exported (map own_export xs)
  owns [] h = tt
  owns (x ∷ xs) h = (h.0, owns xs h.1)

  statement : (s : Stmt) → Each (statement_exported s) → Exported (statement_exports s)
  unfolding statement_exported statement_exports
  statement (Default v) h = h
  statement Empty h = owns _ h
  statement (Expression e) h = owns _ h
  statement (Assign x v) h = owns _ h
  statement (Block ss) h = owns _ h
  statement (If e ss) h = owns _ h
  statement (IfElse e ss rs) h = owns _ h
  statement (Try ss rs) h = owns _ h
  statement (TryCatch ss x rs) h = owns _ h
  statement (Throw e) h = owns _ h
  statement Return h = owns _ h
  statement (ReturnValue e) h = owns _ h
  statement (Await e) h = owns _ h
  statement (PrintAwait e) h = owns _ h
  statement (Const bs) h = owns _ h
  statement (Let bs) h = owns _ h

  item : (requests : List Text) (imports : List ImportEntry) (x : Item) → Each (exported_of x) → Exported (exports_of requests imports x)
  unfolding exported_of exports_of
  item requests imports (ImportEffect s) h = tt
  item requests imports (ImportFrom s bs) h = tt
  item requests imports (ExportAll s) h = tt
  item requests imports (ExportAllAs n s) h = h
  item requests imports (ExportFrom es s) h = passed _ es h
  item requests imports (ExportList es) h = lists imports es h
  item requests imports (ExportStatement s) h = statement s h
  item requests imports (ExportFunction n ps ss) h = h
  item requests imports (ExportDefaultFunction n ps ss) h = h
  item requests imports (Function n ps ss) h = tt
  item requests imports (Statement s) h = tt

  items : (requests : List Text) (imports : List ImportEntry) (xs : List Item) → Each (exported_names xs) → Exported (all_exports requests imports xs)
  unfolding exported_names all_exports
  items requests imports [] h = tt
  items requests imports (x ∷ xs) h = both _ _ (item requests imports x (first_texts _ _ h)) (items requests imports xs (last_texts _ _ h))

  local_names : (es : List Export) → Exported es → Each (map (λ l. l.name) (locals_of es))
  unfolding locals_of
  local_names [] h = tt
  local_names (Local l ∷ es) h = (h.0, local_names es h.1)
  local_names (Indirect i ∷ es) h = local_names es h.1

  indirect_names : (es : List Export) → Exported es → Each (map (λ i. i.name) (indirects_of es))
  unfolding indirects_of
  indirect_names [] h = tt
  indirect_names (Local l ∷ es) h = indirect_names es h.1
  indirect_names (Indirect i ∷ es) h = (h.0, indirect_names es h.1)

  pub names_exported : (xs : List Item) → Each (exported_names xs) → Each (map (λ l. l.name) (entries_of xs).locals) × Each (map (λ i. i.name) (entries_of xs).indirects)
  unfolding entries_of entries_with
  names_exported xs h = (local_names _ (items _ _ xs h), indirect_names _ (items _ _ xs h))
