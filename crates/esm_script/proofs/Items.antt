-- The items of a tree, one by one.
use Rattle.std.proofs.Common.{◌≡◌, ◌≢◌, ℕ, ◌+◌, ◌<◌, ◌≤◌, Bool, true, false, cond, List, [], ◌∷◌, ◌++◌, length, map, drop, get_or, Some, None, Box, refl, sym, ap, ◌∙◌, arith, append_assoc, append-nil}
use Rattle.std.proofs.lemmas.List.{drop_more, drop_all}
use Rattle.std.proofs.lemmas.List.Sums.{prefix_len-le-length}
use Rattle.std.specs.Prelude.{nat_lt, not}
use Rattle.std.specs.List.{position, position_or_len}
use Rattle.std.specs.declared.alloc.Global.{Global}
use Rattle.esm_tree.specs.declared.node.ImportNode.{ImportNode}
use Rattle.esm_tree.specs.declared.node.NamespaceExport.{NamespaceExport}
use Rattle.esm_tree.specs.declared.node.PassedExports.{PassedExports}
use Rattle.esm_tree.specs.declared.node.ItemNode.{ItemNode}
use Rattle.esm_tree.specs.declared.node.ItemNode.TheVariants as i
use Rattle.esm_tree.specs.Syntax.{Stmt, Item, ExportAll}
use Rattle.esm_tree.specs.Flat.{item_of, items_of}
use Rattle.esm_base.specs.Urls.{Text}
use Rattle.esm_ast.specs.declared.entries.ImportEntry.{ImportEntry}
use Rattle.esm_ast.specs.Entries.{request_of, add_request, requests_after, imports_of, all_imports, stars_of}

-- what is left of a list
pub at_is : {A : Type 0} (xs : List A) (k : ℕ) (x : A) → k < length xs → x ≡ get_or xs k x → drop k xs ≡ x ∷ drop (k + 1) xs
at_is xs k x lt e = drop_more xs k x lt ∙ ap (λ y. y ∷ drop (k + 1) xs) (sym e)

pub past : {A : Type 0} (xs : List A) (k : ℕ) → length xs ≤ k → drop k xs ≡ []
past xs k le = drop_all k xs le

-- the place of what passes a test
pub place_found : {A : Type 0} (p : A → Bool) (xs : List A) (k : ℕ) → position p xs ≡ Some k → k ≡ position_or_len p xs
place_found p xs k e = by (nat_lt (position_or_len p xs) (length xs)) e
  where
    by : (b : Bool) → cond b (Some (position_or_len p xs)) None ≡ Some k → k ≡ position_or_len p xs
    by true f = cc
    by false f = absurd (cc)

pub place_missing : {A : Type 0} (p : A → Bool) (xs : List A) → position p xs ≡ None → length xs ≡ position_or_len p xs
place_missing p xs e = by (nat_lt (position_or_len p xs) (length xs)) refl e
  where
    at_least : (m n : ℕ) → nat_lt m n ≡ false → n ≤ m
    at_least m n h = grind arith

    by : (b : Bool) → nat_lt (position_or_len p xs) (length xs) ≡ b → cond b (Some (position_or_len p xs)) None ≡ None → length xs ≡ position_or_len p xs
    by true h f = absurd (cc)
    by false h f = let a = at_least (position_or_len p xs) (length xs) h in let b = prefix_len-le-length (λ x. not (p x)) xs in omega (arith, a, b)

-- more of a list is gathered, and the rest of it is left
pub gathers : {A : Type 0} (old new one rest whole : List A) → old ++ (one ++ rest) ≡ whole → new ≡ old ++ one → new ++ rest ≡ whole
gathers old new one rest whole h e = ap (λ xs. xs ++ rest) e ∙ append_assoc old one rest ∙ h

-- the same of a list that is mapped
module _ {A B : Type 0} (f : A → B) (xs : List A) (k : ℕ) where
  pub mapped_next : (x : A) (old new whole : List B) → k < length xs → x ≡ get_or xs k x → new ≡ old ++ f x ∷ [] → old ++ map f (drop k xs) ≡ whole → new ++ map f (drop (k + 1) xs) ≡ whole
  mapped_next x old new whole lt e is h = gathers old new (f x ∷ []) (map f (drop (k + 1) xs)) whole (ap (λ ys. old ++ map f ys) (sym (at_is xs k x lt e)) ∙ h) is

  pub mapped_end : (found whole : List B) → length xs ≤ k → found ++ map f (drop k xs) ≡ whole → found ≡ whole
  mapped_end found whole le h = sym (append-nil found) ∙ ap (λ ys. found ++ map f ys) (sym (past xs k le)) ∙ h

star_first : (requests : List Text) (x : Item) (xs : List Item) → stars_of requests (x ∷ xs) ≡ stars_of requests (x ∷ []) ++ stars_of requests xs
unfolding stars_of
star_first requests (ExportAll s) xs = refl
star_first requests _ xs = refl

module _ (stmts : List Stmt) where
  pub other_request : (node : ItemNode) → ((s : Box Text Global) → node ≢ i.ImportEffect s) → ((p : Box ImportNode Global) → node ≢ i.Import p) → ((s : Box Text Global) → node ≢ i.ExportAll s) → ((p : Box NamespaceExport Global) → node ≢ i.ExportAllAs p)
      → ((p : Box PassedExports Global) → node ≢ i.ExportFrom p) → None ≡ request_of (item_of stmts node)
  unfolding request_of
  other_request (i.ImportEffect s) a b c d e = absurd (a s refl)
  other_request (i.Import p) a b c d e = absurd (b p refl)
  other_request (i.ExportAll s) a b c d e = absurd (c s refl)
  other_request (i.ExportAllAs p) a b c d e = absurd (d p refl)
  other_request (i.ExportFrom p) a b c d e = absurd (e p refl)
  other_request (i.ExportList es) a b c d e = refl
  other_request (i.ExportStatement id) a b c d e = refl
  other_request (i.ExportFunction f) a b c d e = refl
  other_request (i.ExportDefaultFunction f) a b c d e = refl
  other_request (i.Function f) a b c d e = refl
  other_request (i.Statement id) a b c d e = refl

  pub other_imports : (requests : List Text) (node : ItemNode) → ((p : Box ImportNode Global) → node ≢ i.Import p) → imports_of requests (item_of stmts node) ≡ []
  unfolding imports_of
  other_imports requests (i.Import p) h = absurd (h p refl)
  other_imports requests (i.ImportEffect s) h = refl
  other_imports requests (i.ExportAll s) h = refl
  other_imports requests (i.ExportAllAs p) h = refl
  other_imports requests (i.ExportFrom p) h = refl
  other_imports requests (i.ExportList es) h = refl
  other_imports requests (i.ExportStatement id) h = refl
  other_imports requests (i.ExportFunction f) h = refl
  other_imports requests (i.ExportDefaultFunction f) h = refl
  other_imports requests (i.Function f) h = refl
  other_imports requests (i.Statement id) h = refl

  pub other_stars : (requests : List Text) (node : ItemNode) → ((s : Box Text Global) → node ≢ i.ExportAll s) → stars_of requests (item_of stmts node ∷ []) ≡ []
  unfolding stars_of
  other_stars requests (i.ExportAll s) h = absurd (h s refl)
  other_stars requests (i.Import p) h = refl
  other_stars requests (i.ImportEffect s) h = refl
  other_stars requests (i.ExportAllAs p) h = refl
  other_stars requests (i.ExportFrom p) h = refl
  other_stars requests (i.ExportList es) h = refl
  other_stars requests (i.ExportStatement id) h = refl
  other_stars requests (i.ExportFunction f) h = refl
  other_stars requests (i.ExportDefaultFunction f) h = refl
  other_stars requests (i.Function f) h = refl
  other_stars requests (i.Statement id) h = refl

  module _ (nodes : List ItemNode) (k : ℕ) where
    -- the items from here on
    abbrev left : List Item
    left = items_of stmts (drop k nodes)

    abbrev behind : List Item
    behind = items_of stmts (drop (k + 1) nodes)

    none_left : length nodes ≤ k → left ≡ []
    none_left le = ap (items_of stmts) (past nodes k le)

    one_left : (node : ItemNode) → k < length nodes → node ≡ get_or nodes k node → left ≡ item_of stmts node ∷ behind
    one_left node lt e = ap (items_of stmts) (at_is nodes k node lt e)

    pub requests_next : (node : ItemNode) (found new : List Text) (whole : List Text) → k < length nodes → node ≡ get_or nodes k node → new ≡ add_request found (request_of (item_of stmts node))
        → requests_after found left ≡ whole → requests_after new behind ≡ whole
    unfolding requests_after
    requests_next node found new whole lt e is h = ap (λ f. requests_after f behind) is ∙ ap (requests_after found) (sym (one_left node lt e)) ∙ h

    pub requests_end : (found whole : List Text) → length nodes ≤ k → requests_after found left ≡ whole → found ≡ whole
    unfolding requests_after
    requests_end found whole le h = ap (requests_after found) (sym (none_left le)) ∙ h

    pub imports_next : (requests : List Text) (node : ItemNode) (old new whole : List ImportEntry) → k < length nodes → node ≡ get_or nodes k node → new ≡ old ++ imports_of requests (item_of stmts node)
        → old ++ all_imports requests left ≡ whole → new ++ all_imports requests behind ≡ whole
    unfolding all_imports
    imports_next requests node old new whole lt e is h = gathers old new (imports_of requests (item_of stmts node)) (all_imports requests behind) whole (ap (λ xs. old ++ all_imports requests xs) (sym (one_left node lt e)) ∙ h) is

    pub imports_end : (requests : List Text) (found whole : List ImportEntry) → length nodes ≤ k → found ++ all_imports requests left ≡ whole → found ≡ whole
    unfolding all_imports
    imports_end requests found whole le h = sym (append-nil found) ∙ ap (λ xs. found ++ all_imports requests xs) (sym (none_left le)) ∙ h

    pub stars_next : (requests : List Text) (node : ItemNode) (old new whole : List ℕ) → k < length nodes → node ≡ get_or nodes k node → new ≡ old ++ stars_of requests (item_of stmts node ∷ [])
        → old ++ stars_of requests left ≡ whole → new ++ stars_of requests behind ≡ whole
    stars_next requests node old new whole lt e is h =
        let one : stars_of requests left ≡ stars_of requests (item_of stmts node ∷ []) ++ stars_of requests behind = ap (stars_of requests) (one_left node lt e) ∙ star_first requests (item_of stmts node) behind in
        gathers old new (stars_of requests (item_of stmts node ∷ [])) (stars_of requests behind) whole (ap (λ xs. old ++ xs) (sym one) ∙ h) is

    pub stars_end : (requests : List Text) (found whole : List ℕ) → length nodes ≤ k → found ++ stars_of requests left ≡ whole → found ≡ whole
    unfolding stars_of
    stars_end requests found whole le h = sym (append-nil found) ∙ ap (λ xs. found ++ stars_of requests xs) (sym (none_left le)) ∙ h
