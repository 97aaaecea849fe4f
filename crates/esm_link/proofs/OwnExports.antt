-- What a module text exports as its own is declared once.
use Rattle.std.proofs.Common.{◌≡◌, ◌<◌, ◌≤◌, ℕ, Bool, true, false, List, [], ◌∷◌, ◌++◌, map, length, Option, Some, None, refl, ap, subst, sym, ◌∙◌, arith}
use Rattle.std.specs.Prelude.{◌^◌, not, is_some, ⊤}
use Rattle.std.specs.List.{list_any, AllByRecursion}
use Rattle.std.specs.Str.{bytes_eq}
use Rattle.std.proofs.lemmas.Slice.Eq.{bytes_eq-Decides}
use Rattle.std.proofs.lemmas.List.Elements.{All-from_recursion, All-weaker}
use mathlib.Core.Bool.{true≢false}
use Rattle.esm_base.specs.DefaultExport.{star_default, or_star_default}
use Rattle.esm_base.specs.Urls.{Text}
use Rattle.esm_tree.specs.declared.node.Wanted.{Wanted}
use Rattle.esm_tree.specs.declared.node.Wanted.TheVariants as wanted
use Rattle.esm_tree.specs.declared.node.ExportSpecifier.{ExportSpecifier}
use Rattle.esm_tree.specs.Syntax.{Stmt, Empty, Expression, Assign, Block, If, IfElse, Try, TryCatch, Throw, Return, ReturnValue, Await, PrintAwait, Const, Let, Default, Item, Parts, ImportEffect, ImportFrom, ExportAll, ExportAllAs, ExportFrom, ExportList, ExportStatement, ExportFunction, ExportDefaultFunction, Function, Statement}
use Rattle.esm_grammar.specs.Names.{has_text, names_of, declared_names}
use Rattle.esm_grammar.specs.EarlyErrors.{has_repeat, module_names, listed_of, listed_in, exports_twice, lists_no_name, lists_undeclared, declares_twice, has_early_error}
use Rattle.esm_ast.specs.declared.entries.ImportEntry.{ImportEntry}
use Rattle.esm_ast.specs.declared.entries.LocalExport.{LocalExport}
use Rattle.esm_ast.specs.Entries.{Export, Local, Indirect, listed_by, listed_by_wanted, listed, passed_on, own_export, import_named, statement_exports, exports_of, all_exports, locals_of, requests_of, all_imports, entries_with, entries_of}
use Rattle.esm_ast.proofs.Small.{spelled_few}
use Rattle.esm_realm.proofs.Lists.{either}
use Rattle.esm_realm.proofs.Urls.{or_true, or_left, or_cases, or_false}
use Rattle.esm_env.specs.Declarations.{initial}
use Rattle.esm_link.specs.Realm.{IsOwnBinding, declared, namespace, BindsOwnExports}
use Rattle.esm_ast.specs.Spelled.{AreSpelled}
use Rattle.esm_link.specs.Parsed.{SpelledIsBound}
use Rattle.esm_link.proofs.SpelledNames.{IsPlain, names_plain}
use Rattle.esm_link.proofs.DeclaredNames.{Has, any_append, owns, owns_in, initial_is, imports_in, imports_are, stated, by_statement, by_function, split_names, imports_named, apart}

not_true : (b : Bool) → not b ≡ false → b ≡ true
not_true true h = refl
not_true false h = absurd (true≢false h)

some_is : {A : Type 0} (o : Option A) → is_some o ≡ true → (a : A) × (o ≡ Some a)
some_is None h = absurd (true≢false (sym h))
some_is (Some a) h = (a, refl)

none_is : {A : Type 0} (o : Option A) → is_some o ≡ false → o ≡ None
none_is None h = refl
none_is (Some a) h = absurd (true≢false h)

decided : (b : Bool) → (b ≡ true → ⊥) → b ≡ false
decided true h = absurd (h refl)
decided false h = refl

plain_has : (xs : List Text) → AllByRecursion IsPlain xs → Has xs star_default → ⊥
unfolding has_text
plain_has [] a h = true≢false (sym h)
plain_has (s ∷ ss) a h = either (or_cases (bytes_eq s star_default) (has_text ss star_default) h) (λ e. a.0 ((bytes_eq-Decides s star_default).0 e)) (plain_has ss a.1)

-- in a module whose names are each declared once, and none of which is `*default*`
module _ (items : List Item) (once : has_repeat (module_names items) ≡ false) (plain : Has (module_names items) star_default → ⊥) where
  abbrev imports : List ImportEntry
  imports = all_imports (requests_of items) items

  abbrev Own : List ℕ → Type 0
  Own t = IsOwnBinding items t

  imports_is : (t : Text) → is_some (import_named imports t) ≡ imports_in items t
  imports_is t = imports_are (requests_of items) items t

  entry_imports : (entries_of items).imports ≡ imports
  unfolding entries_of entries_with
  entry_imports = refl

  not_both : (t : Text) → imports_in items t ≡ true → owns_in items t ≡ true → ⊥
  not_both t i o = apart items once t (λ e. plain (subst (Has (module_names items)) e (imports_named items t i))) i o

  named_entries : (t : Text) (o : Option ImportEntry) → import_named imports t ≡ o → import_named (entries_of items).imports t ≡ o
  named_entries t o e = ap (λ es. import_named es t) entry_imports ∙ e

  -- a name that a statement or a function declares
  is_own : (t : Text) → owns_in items t ≡ true → Own t
  is_own t o =
      let i = some_is (initial items t) (initial_is items t ∙ o) in
      let none = none_is (import_named imports t) (imports_is t ∙ decided (imports_in items t) (λ k. not_both t k o)) in
      declared i.0 i.1 (named_entries t None none)

  -- a namespace that is imported
  is_space : (t : Text) (e : ImportEntry) → import_named imports t ≡ Some e → e.wanted ≡ wanted.Whole → Own t
  is_space t e is w =
      let i : imports_in items t ≡ true = sym (imports_is t) ∙ ap is_some is in
      namespace e (none_is (initial items t) (initial_is items t ∙ decided (owns_in items t) (λ o. not_both t i o))) (named_entries t (Some e) is) w

  abbrev OwnExport : Export → Type 0
  OwnExport (Local l) = Own l.local
  OwnExport (Indirect i) = ⊤

  abbrev Owns : List Export → Type 0
  Owns es = AllByRecursion OwnExport es

  both : (xs ys : List Export) → Owns xs → Owns ys → Owns (xs ++ ys)
  both [] ys h k = k
  both (x ∷ xs) ys h k = (h.0, both xs ys h.1 k)

  passes : (request : ℕ) (es : List ExportSpecifier) → Owns (map (passed_on request) es)
  passes request [] = tt
  passes request (e ∷ es) = (tt, passes request es)

  -- ---- export lists

  abbrev is_undeclared : ExportSpecifier → Bool
  is_undeclared e = not (has_text (module_names items) e.first)

  by_wanted : (name t : Text) (e : ImportEntry) → import_named imports t ≡ Some e → (w : Wanted) → e.wanted ≡ w → OwnExport (listed_by_wanted name t e.request w)
  unfolding listed_by_wanted
  by_wanted name t e is (wanted.Named n) v = tt
  by_wanted name t e is wanted.Whole v = is_space t e is v

  by_import : (name t : Text) → Has (module_names items) t → (o : Option ImportEntry) → import_named imports t ≡ o → OwnExport (listed_by name t o)
  unfolding listed_by
  by_import name t h None is = either (split_names items t h)
      (λ i. absurd (true≢false (sym i ∙ sym (imports_is t) ∙ ap is_some is)))
      (λ o. is_own t o)
  by_import name t h (Some e) is = by_wanted name t e is e.wanted refl

  lists : (es : List ExportSpecifier) → list_any is_undeclared es ≡ false → Owns (map (listed imports) es)
  unfolding listed
  lists [] h = tt
  lists (e ∷ es) h =
      let p = or_false (is_undeclared e) (list_any is_undeclared es) h in
      (by_import e.exported e.first (not_true (has_text (module_names items) e.first) p.0) (import_named imports e.first) refl, lists es p.1)

  -- ---- statements and functions

  -- what these items declare the whole declares
  abbrev Covers : List Item → Type 0
  Covers xs = (t : Text) → owns_in xs t ≡ true → owns_in items t ≡ true

  -- what this item declares the whole declares
  abbrev CoversItem : Item → Type 0
  CoversItem x = (t : Text) → owns x t ≡ true → owns_in items t ≡ true

  own_text : (t : Text) (ts : List Text) → Has (t ∷ ts) t
  unfolding has_text
  own_text t ts = or_left (bytes_eq t t) (has_text ts t) ((bytes_eq-Decides t t).1 refl)

  later_text : (s : Text) (ts : List Text) (t : Text) → Has ts t → Has (s ∷ ts) t
  unfolding has_text
  later_text s ts t h = or_true (bytes_eq s t) (has_text ts t) h

  names_own : (ns : List Text) → ((t : Text) → Has ns t → Own t) → Owns (map own_export ns)
  names_own [] h = tt
  names_own (n ∷ ns) h = (h n (own_text n ns), names_own ns (λ t k. h t (later_text n ns t k)))

  stated_own : (s : Stmt) → CoversItem (ExportStatement s) → (t : Text) → Has (declared_names s) t → Own t
  stated_own s c t h = is_own t (c t (by_statement s t (stated s t h)))

  statement : (s : Stmt) → CoversItem (ExportStatement s) → ((t : Text) → Has (declared_names s) t → Own t) → Owns (statement_exports s)
  unfolding statement_exports declared_names
  statement (Const bs) c h = names_own (names_of bs) h
  statement (Let bs) c h = names_own (names_of bs) h
  statement (Default v) c h = (is_own star_default (c star_default (by_statement (Default v) star_default (own_text star_default []))), tt)
  statement Empty c h = tt
  statement (Expression e) c h = tt
  statement (Assign x v) c h = tt
  statement (Block ss) c h = tt
  statement (If e ss) c h = tt
  statement (IfElse e ss rs) c h = tt
  statement (Try ss rs) c h = tt
  statement (TryCatch ss x rs) c h = tt
  statement (Throw e) c h = tt
  statement Return c h = tt
  statement (ReturnValue e) c h = tt
  statement (Await e) c h = tt
  statement (PrintAwait e) c h = tt

  item : (requests : List Text) (x : Item) → CoversItem x → list_any is_undeclared (listed_of x) ≡ false → Owns (exports_of requests imports x)
  unfolding exports_of listed_of
  item requests (ImportEffect s) c h = tt
  item requests (ImportFrom s bs) c h = tt
  item requests (ExportAll s) c h = tt
  item requests (ExportAllAs n s) c h = (tt, tt)
  item requests (ExportFrom es s) c h = passes _ es
  item requests (ExportList es) c h = lists es h
  item requests (ExportStatement s) c h = statement s c (stated_own s c)
  item requests (ExportFunction n ps ss) c h = (is_own n (c n (by_function n n (own_text n []))), tt)
  item requests (ExportDefaultFunction n ps ss) c h = (is_own (or_star_default n) (c (or_star_default n) (by_function (or_star_default n) (or_star_default n) (own_text (or_star_default n) []))), tt)
  item requests (Function n ps ss) c h = tt
  item requests (Statement s) c h = tt

  exports : (requests : List Text) (xs : List Item) → Covers xs → list_any is_undeclared (listed_in xs) ≡ false → Owns (all_exports requests imports xs)
  unfolding all_exports listed_in
  exports requests [] c h = tt
  exports requests (x ∷ xs) c h =
      let p = or_false (list_any is_undeclared (listed_of x)) (list_any is_undeclared (listed_in xs)) (sym (any_append is_undeclared (listed_of x) (listed_in xs)) ∙ h) in
      both _ _ (item requests x (λ t o. c t (or_left (owns x t) (owns_in xs t) o)) p.0) (exports requests xs (λ t o. c t (or_true (owns x t) (owns_in xs t) o)) p.1)

  locals : (es : List Export) → Owns es → AllByRecursion (λ (l : LocalExport). Own l.local) (locals_of es)
  unfolding locals_of
  locals [] h = tt
  locals (Local l ∷ es) h = (h.0, locals es h.1)
  locals (Indirect i ∷ es) h = locals es h.1

  entry_locals : list_any is_undeclared (listed_in items) ≡ false → AllByRecursion (λ (l : LocalExport). Own l.local) (entries_of items).locals
  unfolding entries_of entries_with
  entry_locals h = locals _ (exports (requests_of items) items (λ t o. o) h)

  binds : list_any is_undeclared (listed_in items) ≡ false → BindsOwnExports items
  binds h = All-from_recursion (λ (l : LocalExport). Own l.local) (entries_of items).locals (entry_locals h)

-- ---- early errors

record NoErrors (items : List Item) : Type 0 where
  listed_are : list_any (λ (e : ExportSpecifier). not (has_text (module_names items) e.first)) (listed_in items) ≡ false
  once : has_repeat (module_names items) ≡ false

no_errors : (items : List Item) → has_early_error items ≡ false → NoErrors items
unfolding has_early_error lists_undeclared declares_twice
no_errors items h =
    let a = or_false (exports_twice items) _ h in
    let b = or_false (lists_no_name items) _ a.1 in
    let c = or_false (lists_undeclared items) _ b.1 in
    let d = or_false (declares_twice items) _ c.1 in
    record { listed_are = c.0; once = d.0 }

pub binds_own_exports : (items : List Item) → AreSpelled items → BindsOwnExports items
binds_own_exports items (bytes, s) =
    let n = no_errors items s.no_error in
    binds items n.once (plain_has (module_names items) (names_plain bytes items s)) n.listed_are

few : (items : List Item) → AreSpelled items → length items < 2 ^ 31
few items (bytes, s) =
    let a = spelled_few bytes items s in
    let b : length bytes ≤ 1048576 = s.tokens.short in
    omega (arith, a, b)

pub spelled_is_bound : SpelledIsBound
spelled_is_bound = record {
  exports = binds_own_exports;
  few_items = few;
  trees = λ trees rs same are spelled. record {
    as_many = same;
    entries = are;
    exports = All-weaker (λ (t : Parts). AreSpelled t.items) (λ (t : Parts). BindsOwnExports t.items) (λ t s. binds_own_exports t.items s) trees spelled;
    few_items = All-weaker (λ (t : Parts). AreSpelled t.items) (λ (t : Parts). length t.items < 2 ^ 31) (λ t s. few t.items s) trees spelled;
  };
}
