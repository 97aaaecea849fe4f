-- What a module imports and exports is of its own requests.
use Rattle.std.proofs.Common.{◌≡◌, ℕ, suc, ◌+◌, ◌<◌, Bool, true, false, cond, List, [], ◌∷◌, ◌++◌, length, map, Option, Some, None, refl, ap, subst, ◌∙◌, arith}
use Rattle.std.specs.Prelude.{All, bytes_eq, not, ◌||◌}
use Rattle.std.specs.List.{list_any}
use Rattle.std.proofs.lemmas.List.Elements.{All-nil, All-cons, All-append, All-map}
use Rattle.std.proofs.lemmas.Slice.Eq.{bytes_eq-Decides}
use Rattle.esm_tree.specs.declared.node.Wanted.{Wanted}
use Rattle.esm_tree.specs.declared.node.Wanted.TheVariants.{Named, Whole}
use Rattle.esm_tree.specs.Syntax.{Stmt, Default, Item, ImportEffect, ImportFrom, ExportAll, ExportAllAs, ExportFrom, ExportList, ExportStatement, ExportFunction, ExportDefaultFunction, Function, Statement}
use Rattle.esm_base.specs.Urls.{Text}
use Rattle.esm_ast.specs.declared.entries.ImportEntry.{ImportEntry}
use Rattle.esm_ast.specs.declared.entries.IndirectExport.{IndirectExport}
use Rattle.esm_ast.specs.Entries.{NamesRequests, request_of, with_text, add_request, requests_after, requests_of, place_of, import_entry, imports_of, all_imports, import_named, Export, Local, Indirect, own_export, passed_on, listed_by, listed_by_wanted, listed, statement_exports, exports_of, all_exports, indirects_of, stars_of, entries_with, entries_of}

-- ---- every request of an item is among the requests

abbrev has : List Text → Text → Bool
has texts s = list_any (bytes_eq s) texts

or_true : (a : Bool) → (a || true) ≡ true
or_true true = refl
or_true false = refl

or_left : (a b c : Bool) → (a || b) ≡ true → (a || (b || c)) ≡ true
or_left true b c h = refl
or_left false true c h = refl
or_left false false c h = absurd (let e : false ≡ true = h in cc)

own_text : (s : Text) → bytes_eq s s ≡ true
own_text s = (bytes_eq-Decides s s).1 refl

has_more : (xs ys : List Text) (s : Text) → has xs s ≡ true → has (xs ++ ys) s ≡ true
has_more [] ys s h = absurd (let e : false ≡ true = h in cc)
has_more (x ∷ xs) ys s h = more (bytes_eq s x) h (has_more xs ys s)
  where
    more : (b : Bool) → (b || has xs s) ≡ true → (has xs s ≡ true → has (xs ++ ys) s ≡ true) → (b || has (xs ++ ys) s) ≡ true
    more true h f = refl
    more false h f = f h

has_last : (xs : List Text) (s : Text) → has (xs ++ s ∷ []) s ≡ true
has_last [] s = ap (λ b. b || false) (own_text s)
has_last (x ∷ xs) s = ap (λ b. bytes_eq s x || b) (has_last xs s) ∙ or_true (bytes_eq s x)

has_with : (b : Bool) (xs : List Text) (s : Text) → has xs s ≡ b → has (cond b xs (xs ++ s ∷ [])) s ≡ true
has_with true xs s h = h
has_with false xs s h = has_last xs s

keeps_with : (b : Bool) (xs : List Text) (s t : Text) → has xs t ≡ true → has (cond b xs (xs ++ s ∷ [])) t ≡ true
keeps_with true xs s t h = h
keeps_with false xs s t h = has_more xs (s ∷ []) t h

keeps_request : (o : Option Text) (xs : List Text) (t : Text) → has xs t ≡ true → has (add_request xs o) t ≡ true
unfolding add_request with_text
keeps_request None xs t h = h
keeps_request (Some s) xs t h = keeps_with (has xs s) xs s t h

has_request : (o : Option Text) (xs : List Text) (t : Text) → o ≡ Some t → has (add_request xs o) t ≡ true
unfolding add_request with_text
has_request None xs t e = absurd (cc)
has_request (Some s) xs t e = let same : s ≡ t = cc in subst (λ u. has (with_text xs s) u ≡ true) same (has_with (has xs s) xs s refl)

keeps_all : (xs : List Item) (found : List Text) (t : Text) → has found t ≡ true → has (requests_after found xs) t ≡ true
unfolding requests_after
keeps_all [] found t h = h
keeps_all (x ∷ xs) found t h = keeps_all xs (add_request found (request_of x)) t (keeps_request (request_of x) found t h)

-- the items ask for these requests alone
abbrev AsksFor : List Text → List Item → Type 0
AsksFor requests xs = All (λ x. (s : Text) → request_of x ≡ Some s → has requests s ≡ true) xs

asked_after : (xs : List Item) (found : List Text) → AsksFor (requests_after found xs) xs
unfolding requests_after
asked_after [] found = λ k d lt. absurd (omega arith)
asked_after (x ∷ xs) found =
    let after = requests_after (add_request found (request_of x)) xs in
    let here : (s : Text) → request_of x ≡ Some s → has after s ≡ true = λ s e. keeps_all xs (add_request found (request_of x)) s (has_request (request_of x) found s e) in
    All-cons (λ y. (s : Text) → request_of y ≡ Some s → has after s ≡ true) x xs here (asked_after xs (add_request found (request_of x)))

place_below : (requests : List Text) (s : Text) → has requests s ≡ true → place_of requests s < length requests
place_below [] s h = absurd (let e : false ≡ true = h in cc)
place_below (r ∷ rs) s h = by (bytes_eq s r) h (place_below rs s)
  where
    by : (b : Bool) → (b || has rs s) ≡ true → (has rs s ≡ true → place_of rs s < length rs) → cond (not b) (1 + place_of rs s) 0 < suc (length rs)
    by true h f = omega arith
    by false h f = let l = f h in omega (arith, l)

-- ---- each list

abbrev ImportsBelow : ℕ → List ImportEntry → Type 0
ImportsBelow n = All (λ (e : ImportEntry). e.request < n)

module _ (requests : List Text) where
  abbrev Below : ImportEntry → Type 0
  Below e = e.request < length requests

  asked_imports : (x : Item) → ((s : Text) → request_of x ≡ Some s → has requests s ≡ true) → ImportsBelow (length requests) (imports_of requests x)
  unfolding imports_of request_of
  asked_imports (ImportFrom s bs) h = let l = place_below requests s (h s refl) in All-map Below (import_entry (place_of requests s)) bs (λ k d lt. l)
  asked_imports (ImportEffect s) h = All-nil Below
  asked_imports (ExportAll s) h = All-nil Below
  asked_imports (ExportAllAs n s) h = All-nil Below
  asked_imports (ExportFrom es s) h = All-nil Below
  asked_imports (ExportList es) h = All-nil Below
  asked_imports (ExportStatement s) h = All-nil Below
  asked_imports (ExportFunction n ps ss) h = All-nil Below
  asked_imports (ExportDefaultFunction n ps ss) h = All-nil Below
  asked_imports (Function n ps ss) h = All-nil Below
  asked_imports (Statement s) h = All-nil Below

  imports_below : (xs : List Item) → AsksFor requests xs → ImportsBelow (length requests) (all_imports requests xs)
  unfolding all_imports
  imports_below [] h = All-nil Below
  imports_below (x ∷ xs) h = All-append Below (imports_of requests x) (all_imports requests xs) (asked_imports x (h 0 x (omega arith))) (imports_below xs (λ k d lt. h (suc k) d (omega arith)))

  -- an export of another module's binding is of a request
  abbrev ExportBelow : Export → Type 0
  ExportBelow (Local e) = Unit {0}
  ExportBelow (Indirect e) = e.request < length requests

named_below : (n : ℕ) (imports : List ImportEntry) → ImportsBelow n imports → (name : Text) (e : ImportEntry) → import_named imports name ≡ Some e → e.request < n
unfolding import_named
named_below n [] h name e is = absurd (cc)
named_below n (i ∷ imports) h name e is = by (bytes_eq i.local name) is (named_below n imports (λ k d lt. h (suc k) d (omega arith)) name e)
  where
    by : (b : Bool) → cond b (Some i) (import_named imports name) ≡ Some e → (import_named imports name ≡ Some e → e.request < n) → e.request < n
    by true is rest = let same : i ≡ e = cc in subst (λ (j : ImportEntry). j.request < n) same (h 0 i (omega arith))
    by false is rest = rest is

module _ (requests : List Text) (imports : List ImportEntry) (below : ImportsBelow (length requests) imports) where
  wanted_below : (name first : Text) (request : ℕ) (w : Wanted) → request < length requests → ExportBelow requests (listed_by_wanted name first request w)
  unfolding listed_by_wanted
  wanted_below name first request (Named s) lt = lt
  wanted_below name first request Whole lt = tt

  listed_below : (name first : Text) (o : Option ImportEntry) → import_named imports first ≡ o → ExportBelow requests (listed_by name first o)
  unfolding listed_by
  listed_below name first None e = tt
  listed_below name first (Some i) e = wanted_below name first i.request i.wanted (named_below (length requests) imports below first i e)

  owns : (names : List Text) → All (ExportBelow requests) (map own_export names)
  owns names = All-map (ExportBelow requests) own_export names (λ k d lt. tt)

  one : (e : Export) → ExportBelow requests e → All (ExportBelow requests) (e ∷ [])
  one e h = All-cons (ExportBelow requests) e [] h (All-nil (ExportBelow requests))

  statement_below : (s : Stmt) → All (ExportBelow requests) (statement_exports s)
  unfolding statement_exports
  statement_below (Default v) = one _ tt
  statement_below _ = owns _

  exports_below : (x : Item) → ((s : Text) → request_of x ≡ Some s → has requests s ≡ true) → All (ExportBelow requests) (exports_of requests imports x)
  unfolding exports_of request_of listed
  exports_below (ImportEffect s) h = All-nil (ExportBelow requests)
  exports_below (ImportFrom s bs) h = All-nil (ExportBelow requests)
  exports_below (ExportAll s) h = All-nil (ExportBelow requests)
  exports_below (ExportAllAs n s) h = one _ (place_below requests s (h s refl))
  exports_below (ExportFrom es s) h = let l = place_below requests s (h s refl) in All-map (ExportBelow requests) (passed_on (place_of requests s)) es (λ k d lt. l)
  exports_below (ExportList es) h = All-map (ExportBelow requests) (listed imports) es (λ k d lt. listed_below _ _ _ refl)
  exports_below (ExportStatement s) h = statement_below s
  exports_below (ExportFunction n ps ss) h = one _ tt
  exports_below (ExportDefaultFunction n ps ss) h = one _ tt
  exports_below (Function n ps ss) h = All-nil (ExportBelow requests)
  exports_below (Statement s) h = All-nil (ExportBelow requests)

  all_below : (xs : List Item) → AsksFor requests xs → All (ExportBelow requests) (all_exports requests imports xs)
  unfolding all_exports
  all_below [] h = All-nil (ExportBelow requests)
  all_below (x ∷ xs) h = All-append (ExportBelow requests) (exports_of requests imports x) (all_exports requests imports xs) (exports_below x (h 0 x (omega arith))) (all_below xs (λ k d lt. h (suc k) d (omega arith)))

indirects_below : (requests : List Text) (es : List Export) → All (ExportBelow requests) es → All (λ (e : IndirectExport). e.request < length requests) (indirects_of es)
unfolding indirects_of
indirects_below requests [] h = All-nil (λ (e : IndirectExport). e.request < length requests)
indirects_below requests (Local e ∷ es) h = indirects_below requests es (λ k d lt. h (suc k) d (omega arith))
indirects_below requests (Indirect e ∷ es) h = All-cons (λ (e : IndirectExport). e.request < length requests) e _ (h 0 (Indirect e) (omega arith)) (indirects_below requests es (λ k d lt. h (suc k) d (omega arith)))

stars_below : (requests : List Text) (xs : List Item) → AsksFor requests xs → All (λ (i : ℕ). i < length requests) (stars_of requests xs)
unfolding stars_of request_of
stars_below requests [] h = All-nil (λ (i : ℕ). i < length requests)
stars_below requests (x ∷ xs) h = by x (h 0 x (omega arith)) (stars_below requests xs (λ k d lt. h (suc k) d (omega arith)))
  where
    by : (y : Item) → ((s : Text) → request_of y ≡ Some s → has requests s ≡ true) → All (λ (i : ℕ). i < length requests) (stars_of requests xs) → All (λ (i : ℕ). i < length requests) (stars_of requests (y ∷ xs))
    by (ExportAll s) h rest = All-cons (λ (i : ℕ). i < length requests) (place_of requests s) _ (place_below requests s (h s refl)) rest
    by _ h rest = rest

pub names_requests : (items : List Item) → NamesRequests (entries_of items) (length (entries_of items).requests)
unfolding entries_of entries_with
names_requests items =
    let requests = requests_of items in
    let asked : AsksFor requests items = asked_after items [] in
    let imports = imports_below requests items asked in
    record {
      imports = imports;
      exports = record {
        indirects = indirects_below requests _ (all_below requests (all_imports requests items) imports items asked);
        stars = stars_below requests items asked;
      };
    }
