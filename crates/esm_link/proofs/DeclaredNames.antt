-- The names that a module declares: those that it imports, and those that its statements and functions declare.
use Rattle.std.proofs.Common.{◌≡◌, ◌⊎◌, inl, inr, ℕ, suc, Bool, true, false, cond, List, [], ◌∷◌, ◌++◌, map, Option, Some, None, refl, ap, sym, ◌∙◌}
use Rattle.std.specs.Prelude.{◌||◌, is_some}
use Rattle.std.specs.Str.{bytes_eq}
use Rattle.std.specs.List.{list_any}
use Rattle.std.proofs.lemmas.List.{map-append}
use Rattle.std.proofs.lemmas.Slice.Eq.{bytes_eq-Decides}
use mathlib.Core.Bool.{true≢false}
use Rattle.esm_base.specs.DefaultExport.{star_default, or_star_default}
use Rattle.esm_base.specs.Urls.{Text}
use Rattle.esm_tree.specs.declared.node.ImportBinding.{ImportBinding}
use Rattle.esm_tree.specs.Syntax.{Bindings, no_more, binding, Stmt, Empty, Expression, Assign, Block, If, IfElse, Try, TryCatch, Throw, Return, ReturnValue, Await, PrintAwait, Const, Let, Default, Stmts, Item, ImportEffect, ImportFrom, ExportAll, ExportAllAs, ExportFrom, ExportList, ExportStatement, ExportFunction, ExportDefaultFunction, Function, Statement}
use Rattle.esm_grammar.specs.Names.{has_text, names_of, declared_names}
use Rattle.esm_grammar.specs.EarlyErrors.{has_repeat, name_list, declared_of, module_names}
use Rattle.esm_ast.specs.declared.entries.ImportEntry.{ImportEntry}
use Rattle.esm_ast.specs.Entries.{import_entry, imports_of, all_imports, import_named}
use Rattle.esm_realm.proofs.Lists.{either}
use Rattle.esm_realm.proofs.Urls.{or_true, or_left, or_cases, or_false}
use Rattle.esm_env.specs.Declarations.{FunctionCode, Initial, Declaration, declared_by, declares, declared_in, functions_by, functions_of, onto, does, body_of, initial_by, function_named, declared_named, initial}

-- ---- texts in lists

abbrev pub Has : List Text → Text → Type 0
Has xs t = has_text xs t ≡ true

pub any_append : {A : Type 0} (p : A → Bool) (a b : List A) → list_any p (a ++ b) ≡ (list_any p a || list_any p b)
any_append p [] b = refl
any_append p (x ∷ a) b = by (p x) (any_append p a b)
  where
    by : (c : Bool) → list_any p (a ++ b) ≡ (list_any p a || list_any p b) → (c || list_any p (a ++ b)) ≡ ((c || list_any p a) || list_any p b)
    by true e = refl
    by false e = e

text_append : (a b : List Text) (t : Text) → has_text (a ++ b) t ≡ (has_text a t || has_text b t)
unfolding has_text
text_append a b t = any_append (λ s. bytes_eq s t) a b

text_cons : (s : Text) (ss : List Text) (t : Text) → has_text (s ∷ ss) t ≡ (bytes_eq s t || has_text ss t)
unfolding has_text
text_cons s ss t = refl

text_none : (t : Text) → has_text [] t ≡ false
unfolding has_text
text_none t = refl

in_none : {C : Type 0} (t : Text) → Has [] t → C
in_none t h = absurd (true≢false (sym h ∙ text_none t))

one_is : (s t : Text) → Has (s ∷ []) t → s ≡ t
one_is s t h = either (or_cases (bytes_eq s t) (has_text [] t) (sym (text_cons s [] t) ∙ h)) (λ e. (bytes_eq-Decides s t).0 e) (λ k. in_none t k)

in_left : (a b : List Text) (t : Text) → Has a t → Has (a ++ b) t
in_left a b t h = text_append a b t ∙ or_left (has_text a t) (has_text b t) h

in_right : (a b : List Text) (t : Text) → Has b t → Has (a ++ b) t
in_right a b t h = text_append a b t ∙ or_true (has_text a t) (has_text b t) h

in_split : (a b : List Text) (t : Text) → Has (a ++ b) t → Has a t ⊎ Has b t
in_split a b t h = or_cases (has_text a t) (has_text b t) (sym (text_append a b t) ∙ h)

-- a list without repeats, in two parts
record Once (a b : List Text) : Type 0 where
  later : has_repeat b ≡ false
  apart : (t : Text) → Has a t → Has b t → ⊥

once_parts : (a b : List Text) → has_repeat (a ++ b) ≡ false → Once a b
unfolding has_repeat
once_parts [] b h = record { later = h; apart = λ t i j. in_none t i }
once_parts (s ∷ a) b h =
    let p = or_false (has_text (a ++ b) s) (has_repeat (a ++ b)) h in
    let r = once_parts a b p.1 in
    record {
      later = r.later;
      apart = λ t i j. either (or_cases (bytes_eq s t) (has_text a t) (sym (text_cons s a t) ∙ i))
          (λ e. let same : s ≡ t = (bytes_eq-Decides s t).0 e in true≢false (sym (in_right a b s (ap (has_text b) same ∙ j)) ∙ p.0))
          (λ k. r.apart t k j);
    }

-- ---- what statements and functions declare

abbrev names_by : List Declaration → List Text
names_by ds = map (λ (d : Declaration). d.name) ds

abbrev stated_by : Option Stmt → List Text
stated_by None = []
stated_by (Some s) = names_by (declares s)

abbrev functions_named : List FunctionCode → List Text
functions_named fs = map (λ (f : FunctionCode). f.name) fs

abbrev pub owns : Item → Text → Bool
owns x t = has_text (stated_by (does x)) t || has_text (functions_named (functions_by x)) t

-- a statement or a function declares the name
abbrev pub owns_in : List Item → Text → Bool
owns_in [] t = false
owns_in (x ∷ xs) t = owns x t || owns_in xs t

declared_some : (ds : List Declaration) (t : Text) (o : Option Initial) → is_some (declared_named ds t o) ≡ (has_text (names_by ds) t || is_some o)
unfolding has_text
declared_some [] t o = refl
declared_some (d ∷ ds) t o = by (bytes_eq d.name t) (declared_some ds t o)
  where
    by : (b : Bool) → is_some (declared_named ds t o) ≡ (has_text (names_by ds) t || is_some o) → is_some (initial_by b (Initial.Unset d.constant) (declared_named ds t o)) ≡ ((b || has_text (names_by ds) t) || is_some o)
    by true e = refl
    by false e = e

function_some : (i : ℕ) (fs : List FunctionCode) (t : Text) → is_some (function_named i fs t) ≡ has_text (functions_named fs) t
unfolding has_text
function_some i [] t = refl
function_some i (f ∷ fs) t = by (bytes_eq f.name t) (function_some (suc i) fs t)
  where
    by : (b : Bool) → is_some (function_named (suc i) fs t) ≡ has_text (functions_named fs) t → is_some (initial_by b (Initial.FunctionAt i) (function_named (suc i) fs t)) ≡ (b || has_text (functions_named fs) t)
    by true e = refl
    by false e = e

stated_step : (d : Option Stmt) (ss : Stmts) (t : Text) → has_text (names_by (declared_in (onto d ss))) t ≡ (has_text (stated_by d) t || has_text (names_by (declared_in ss)) t)
stated_step None ss t = sym (ap (λ b. b || has_text (names_by (declared_in ss)) t) (text_none t))
stated_step (Some s) ss t = ap (λ xs. has_text xs t) (map-append (λ (d : Declaration). d.name) (declares s) (declared_in ss)) ∙ text_append (names_by (declares s)) (names_by (declared_in ss)) t

function_step : (x : Item) (xs : List Item) (t : Text) → has_text (functions_named (functions_of (x ∷ xs))) t ≡ (has_text (functions_named (functions_by x)) t || has_text (functions_named (functions_of xs)) t)
function_step x xs t = ap (λ ns. has_text ns t) (map-append (λ (f : FunctionCode). f.name) (functions_by x) (functions_of xs)) ∙ text_append (functions_named (functions_by x)) (functions_named (functions_of xs)) t

shuffle : (a b c d : Bool) → ((a || b) || (c || d)) ≡ ((a || c) || (b || d))
shuffle true b c d = refl
shuffle false true true d = refl
shuffle false true false d = refl
shuffle false false true d = refl
shuffle false false false d = refl

both_are : (xs : List Item) (t : Text) → (has_text (names_by (declared_in (body_of xs))) t || has_text (functions_named (functions_of xs)) t) ≡ owns_in xs t
both_are [] t = (λ i. text_none t i || has_text [] t) ∙ text_none t
both_are (x ∷ xs) t =
    (λ i. stated_step (does x) (body_of xs) t i || function_step x xs t i)
    ∙ shuffle (has_text (stated_by (does x)) t) (has_text (names_by (declared_in (body_of xs))) t) (has_text (functions_named (functions_by x)) t) (has_text (functions_named (functions_of xs)) t)
    ∙ ap (λ b. owns x t || b) (both_are xs t)

pub initial_is : (xs : List Item) (t : Text) → is_some (initial xs t) ≡ owns_in xs t
initial_is xs t =
    declared_some (declared_in (body_of xs)) t (function_named 0 (functions_of xs) t)
    ∙ ap (λ b. has_text (names_by (declared_in (body_of xs))) t || b) (function_some 0 (functions_of xs) t)
    ∙ both_are xs t

-- ---- what is imported

abbrev imported_of : Item → List Text
imported_of (ImportFrom s bs) = map (λ b. b.local) bs
imported_of _ = []

abbrev pub imports_in : List Item → Text → Bool
imports_in [] t = false
imports_in (x ∷ xs) t = has_text (imported_of x) t || imports_in xs t

named_append : (a b : List ImportEntry) (t : Text) → is_some (import_named (a ++ b) t) ≡ (is_some (import_named a t) || is_some (import_named b t))
unfolding import_named
named_append [] b t = refl
named_append (e ∷ a) b t = by (bytes_eq e.local t) (named_append a b t)
  where
    by : (c : Bool) → is_some (import_named (a ++ b) t) ≡ (is_some (import_named a t) || is_some (import_named b t))
        → is_some (cond c (Some e) (import_named (a ++ b) t)) ≡ (is_some (cond c (Some e) (import_named a t)) || is_some (import_named b t))
    by true h = refl
    by false h = h

named_entries : (request : ℕ) (bs : List ImportBinding) (t : Text) → is_some (import_named (map (import_entry request) bs) t) ≡ has_text (map (λ b. b.local) bs) t
unfolding import_named has_text
named_entries request [] t = refl
named_entries request (b ∷ bs) t = by (bytes_eq b.local t) (named_entries request bs t)
  where
    by : (c : Bool) → is_some (import_named (map (import_entry request) bs) t) ≡ has_text (map (λ b. b.local) bs) t
        → is_some (cond c (Some (import_entry request b)) (import_named (map (import_entry request) bs) t)) ≡ (c || has_text (map (λ b. b.local) bs) t)
    by true h = refl
    by false h = h

named_item : (requests : List Text) (x : Item) (t : Text) → is_some (import_named (imports_of requests x) t) ≡ has_text (imported_of x) t
unfolding imports_of import_named
named_item requests (ImportFrom s bs) t = named_entries _ bs t
named_item requests (ImportEffect s) t = sym (text_none t)
named_item requests (ExportAll s) t = sym (text_none t)
named_item requests (ExportAllAs n s) t = sym (text_none t)
named_item requests (ExportFrom es s) t = sym (text_none t)
named_item requests (ExportList es) t = sym (text_none t)
named_item requests (ExportStatement s) t = sym (text_none t)
named_item requests (ExportFunction n ps ss) t = sym (text_none t)
named_item requests (ExportDefaultFunction n ps ss) t = sym (text_none t)
named_item requests (Function n ps ss) t = sym (text_none t)
named_item requests (Statement s) t = sym (text_none t)

pub imports_are : (requests : List Text) (xs : List Item) (t : Text) → is_some (import_named (all_imports requests xs) t) ≡ imports_in xs t
unfolding all_imports import_named
imports_are requests [] t = refl
imports_are requests (x ∷ xs) t = named_append (imports_of requests x) (all_imports requests xs) t ∙ (λ i. named_item requests x t i || imports_are requests xs t i)

-- ---- declared names of statements

bindings_are : (constant : Bool) (bs : Bindings) → names_by (declared_by constant bs) ≡ names_of bs
unfolding names_of
bindings_are constant no_more = refl
bindings_are constant (binding n v bs) = ap (λ ns. n ∷ ns) (bindings_are constant bs)

pub stated : (s : Stmt) (t : Text) → Has (declared_names s) t → Has (stated_by (Some s)) t
unfolding declared_names
stated (Const bs) t h = ap (λ ns. has_text ns t) (bindings_are true bs) ∙ h
stated (Let bs) t h = ap (λ ns. has_text ns t) (bindings_are false bs) ∙ h
stated (Default v) t h = in_none t h
stated Empty t h = h
stated (Expression e) t h = h
stated (Assign x v) t h = h
stated (Block ss) t h = h
stated (If e ss) t h = h
stated (IfElse e ss rs) t h = h
stated (Try ss rs) t h = h
stated (TryCatch ss x rs) t h = h
stated (Throw e) t h = h
stated Return t h = h
stated (ReturnValue e) t h = h
stated (Await e) t h = h
stated (PrintAwait e) t h = h

abbrev Known : List Text → Text → Type 0
Known ns t = Has ns t ⊎ (t ≡ star_default)

unstated : (s : Stmt) (t : Text) → Has (stated_by (Some s)) t → Known (declared_names s) t
unfolding declared_names
unstated (Const bs) t h = inl (sym (ap (λ ns. has_text ns t) (bindings_are true bs)) ∙ h)
unstated (Let bs) t h = inl (sym (ap (λ ns. has_text ns t) (bindings_are false bs)) ∙ h)
unstated (Default v) t h = inr (sym (one_is star_default t h))
unstated Empty t h = inl h
unstated (Expression e) t h = inl h
unstated (Assign x v) t h = inl h
unstated (Block ss) t h = inl h
unstated (If e ss) t h = inl h
unstated (IfElse e ss rs) t h = inl h
unstated (Try ss rs) t h = inl h
unstated (TryCatch ss x rs) t h = inl h
unstated (Throw e) t h = inl h
unstated Return t h = inl h
unstated (ReturnValue e) t h = inl h
unstated (Await e) t h = inl h
unstated (PrintAwait e) t h = inl h

-- ---- declared names of items

pub by_statement : (s : Stmt) (t : Text) → Has (stated_by (Some s)) t → (has_text (stated_by (Some s)) t || has_text [] t) ≡ true
by_statement s t h = or_left (has_text (stated_by (Some s)) t) (has_text [] t) h

pub by_function : (n t : Text) → Has (n ∷ []) t → (has_text [] t || has_text (n ∷ []) t) ≡ true
by_function n t h = or_true (has_text [] t) (has_text (n ∷ []) t) h

split_item : (x : Item) (t : Text) → Has (declared_of x) t → Has (imported_of x) t ⊎ (owns x t ≡ true)
unfolding declared_of name_list or_star_default
split_item (ImportFrom s bs) t h = inl h
split_item (ExportStatement s) t h = inr (by_statement s t (stated s t h))
split_item (Statement s) t h = inr (by_statement s t (stated s t h))
split_item (ExportFunction n ps ss) t h = inr (by_function n t h)
split_item (ExportDefaultFunction (Some n) ps ss) t h = inr (by_function n t h)
split_item (ExportDefaultFunction None ps ss) t h = in_none t h
split_item (Function n ps ss) t h = inr (by_function n t h)
split_item (ImportEffect s) t h = in_none t h
split_item (ExportAll s) t h = in_none t h
split_item (ExportAllAs n s) t h = in_none t h
split_item (ExportFrom es s) t h = in_none t h
split_item (ExportList es) t h = in_none t h

imported_declared : (x : Item) (t : Text) → Has (imported_of x) t → Has (declared_of x) t
unfolding declared_of
imported_declared (ImportFrom s bs) t h = h
imported_declared (ExportStatement s) t h = in_none t h
imported_declared (Statement s) t h = in_none t h
imported_declared (ExportFunction n ps ss) t h = in_none t h
imported_declared (ExportDefaultFunction n ps ss) t h = in_none t h
imported_declared (Function n ps ss) t h = in_none t h
imported_declared (ImportEffect s) t h = in_none t h
imported_declared (ExportAll s) t h = in_none t h
imported_declared (ExportAllAs n s) t h = in_none t h
imported_declared (ExportFrom es s) t h = in_none t h
imported_declared (ExportList es) t h = in_none t h

-- of two parts one is empty
only_first : (a : List Text) (t : Text) → (has_text a t || has_text [] t) ≡ true → Has a t
only_first a t h = either (or_cases (has_text a t) (has_text [] t) h) (λ k. k) (λ k. in_none t k)

only_second : (a : List Text) (t : Text) → (has_text [] t || has_text a t) ≡ true → Has a t
only_second a t h = either (or_cases (has_text [] t) (has_text a t) h) (λ k. in_none t k) (λ k. k)

neither : {C : Type 0} (t : Text) → (has_text [] t || has_text [] t) ≡ true → C
neither t h = in_none t (only_first [] t h)

owned_declared : (x : Item) (t : Text) → owns x t ≡ true → Known (declared_of x) t
unfolding declared_of name_list or_star_default
owned_declared (ImportFrom s bs) t h = neither t h
owned_declared (ExportStatement s) t h = unstated s t (only_first (stated_by (Some s)) t h)
owned_declared (Statement s) t h = unstated s t (only_first (stated_by (Some s)) t h)
owned_declared (ExportFunction n ps ss) t h = inl (only_second (n ∷ []) t h)
owned_declared (ExportDefaultFunction (Some n) ps ss) t h = inl (only_second (n ∷ []) t h)
owned_declared (ExportDefaultFunction None ps ss) t h = inr (sym (one_is star_default t (only_second (star_default ∷ []) t h)))
owned_declared (Function n ps ss) t h = inl (only_second (n ∷ []) t h)
owned_declared (ImportEffect s) t h = neither t h
owned_declared (ExportAll s) t h = neither t h
owned_declared (ExportAllAs n s) t h = neither t h
owned_declared (ExportFrom es s) t h = neither t h
owned_declared (ExportList es) t h = neither t h

-- an item that imports declares nothing else
one_kind : {C : Type 0} (x : Item) (t u : Text) → Has (imported_of x) t → owns x u ≡ true → C
one_kind (ImportFrom s bs) t u h k = neither u k
one_kind (ExportStatement s) t u h k = in_none t h
one_kind (Statement s) t u h k = in_none t h
one_kind (ExportFunction n ps ss) t u h k = in_none t h
one_kind (ExportDefaultFunction n ps ss) t u h k = in_none t h
one_kind (Function n ps ss) t u h k = in_none t h
one_kind (ImportEffect s) t u h k = in_none t h
one_kind (ExportAll s) t u h k = in_none t h
one_kind (ExportAllAs n s) t u h k = in_none t h
one_kind (ExportFrom es s) t u h k = in_none t h
one_kind (ExportList es) t u h k = in_none t h

-- ---- declared names of a module

pub split_names : (xs : List Item) (t : Text) → Has (module_names xs) t → (imports_in xs t ≡ true) ⊎ (owns_in xs t ≡ true)
unfolding module_names
split_names [] t h = in_none t h
split_names (x ∷ xs) t h = either (in_split (declared_of x) (module_names xs) t h)
    (λ k. either (split_item x t k) (λ i. inl (or_left (has_text (imported_of x) t) (imports_in xs t) i)) (λ o. inr (or_left (owns x t) (owns_in xs t) o)))
    (λ k. either (split_names xs t k) (λ i. inl (or_true (has_text (imported_of x) t) (imports_in xs t) i)) (λ o. inr (or_true (owns x t) (owns_in xs t) o)))

pub imports_named : (xs : List Item) (t : Text) → imports_in xs t ≡ true → Has (module_names xs) t
unfolding module_names
imports_named [] t h = absurd (true≢false (sym h))
imports_named (x ∷ xs) t h = either (or_cases (has_text (imported_of x) t) (imports_in xs t) h)
    (λ i. in_left (declared_of x) (module_names xs) t (imported_declared x t i))
    (λ i. in_right (declared_of x) (module_names xs) t (imports_named xs t i))

owned_named : (xs : List Item) (t : Text) → owns_in xs t ≡ true → Known (module_names xs) t
unfolding module_names
owned_named [] t h = absurd (true≢false (sym h))
owned_named (x ∷ xs) t h = either (or_cases (owns x t) (owns_in xs t) h)
    (λ o. either (owned_declared x t o) (λ k. inl (in_left (declared_of x) (module_names xs) t k)) inr)
    (λ o. either (owned_named xs t o) (λ k. inl (in_right (declared_of x) (module_names xs) t k)) inr)

-- no name is imported and declared otherwise
pub apart : (xs : List Item) → has_repeat (module_names xs) ≡ false → (t : Text) → (t ≡ star_default → ⊥) → imports_in xs t ≡ true → owns_in xs t ≡ true → ⊥
unfolding module_names
apart [] h t n i o = true≢false (sym i)
apart (x ∷ xs) h t n i o =
    let p = once_parts (declared_of x) (module_names xs) h in
    either (or_cases (has_text (imported_of x) t) (imports_in xs t) i)
    (λ a. either (or_cases (owns x t) (owns_in xs t) o)
    (λ b. one_kind x t t a b)
    (λ b. either (owned_named xs t b) (p.apart t (imported_declared x t a)) n))
    (λ a. either (or_cases (owns x t) (owns_in xs t) o)
    (λ b. either (owned_declared x t b) (λ k. p.apart t k (imports_named xs t a)) n)
    (apart xs p.later t n a))
