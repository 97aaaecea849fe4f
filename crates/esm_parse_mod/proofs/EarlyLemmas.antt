-- What items export, declare and list, one after another; and the order in which early errors are looked for.
use Rattle.std.proofs.Common.{◌≡◌, ◌≢◌, ℕ, zero, suc, ◌+◌, ◌<◌, ◌≤◌, Bool, true, false, not, ◌||◌, List, [], ◌∷◌, ◌++◌, length, drop, get_or, Option, Some, None, Vec, Box, refl, sym, ap, ◌∙◌, arith}
use Rattle.std.specs.List.{list_any}
use Rattle.std.specs.Borrow.{Bor}
use Rattle.std.specs.BTreeSet.{BTreeSet}
use Rattle.std.specs.declared.alloc.Global.{Global}
use Rattle.esm_tree.specs.declared.node.ItemNode.{ItemNode}
use Rattle.esm_tree.specs.declared.node.ItemNode.TheVariants as i
use Rattle.esm_tree.specs.declared.node.StmtNode.{StmtNode}
use Rattle.esm_tree.specs.declared.node.StmtNode.TheVariants as n
use Rattle.esm_tree.specs.declared.node.StmtId.{StmtId}
use Rattle.esm_tree.specs.declared.node.Initializer.{Initializer}
use Rattle.esm_tree.specs.declared.node.ImportNode.{ImportNode}
use Rattle.esm_tree.specs.declared.node.NamespaceExport.{NamespaceExport}
use Rattle.esm_tree.specs.declared.node.PassedExports.{PassedExports}
use Rattle.esm_tree.specs.declared.node.FunctionNode.{FunctionNode}
use Rattle.esm_tree.specs.declared.node.DefaultFunction.{DefaultFunction}
use Rattle.esm_tree.specs.declared.node.ExportSpecifier.{ExportSpecifier}
use Rattle.esm_tree.specs.Syntax.{Expr, Stmt, Item}
use Rattle.esm_tree.specs.Flat.{stmt_of, item_of, item_need, items_of, items_need, AllAtMost}
use Rattle.esm_grammar.specs.Names.{has_text, declared_names}
use Rattle.esm_base.specs.Urls.{Text}
use Rattle.esm_grammar.specs.EarlyErrors.{exported_of, exported_names, declared_of, module_names, statement_exported, listed_of, listed_in, item_scopes, module_scopes, exports_twice, lists_no_name, lists_undeclared, declares_twice, declares_twice_inside, declares_parameter, exports_then, has_early_error, has_repeat}
use Rattle.esm_parse_mod.specs.Inner.Names.{any_clashes, is_unlisted, any_item_wrong, texts, IsSetOf}
use Rattle.esm_parse_mod.proofs.NamesLemmas.{any_append, any_both, scope_errors}
use Rattle.esm_parse_mod.proofs.SeenLemmas.{clashes_both}

-- ---- the other items

pub none_declared : (stmts : List Stmt) (node : ItemNode) → ((p : Box ImportNode Global) → node ≢ i.Import p) → ((a : StmtId) → node ≢ i.ExportStatement a) → ((a : StmtId) → node ≢ i.Statement a)
    → ((f : Box FunctionNode Global) → node ≢ i.ExportFunction f) → ((f : Box DefaultFunction Global) → node ≢ i.ExportDefaultFunction f)
    → ((f : Box FunctionNode Global) → node ≢ i.Function f) → declared_of (item_of stmts node) ≡ []
unfolding declared_of
none_declared stmts (i.Import p) h _ _ _ _ _ = absurd (h p refl)
none_declared stmts (i.ExportStatement a) _ h _ _ _ _ = absurd (h a refl)
none_declared stmts (i.Statement a) _ _ h _ _ _ = absurd (h a refl)
none_declared stmts (i.ExportFunction f) _ _ _ h _ _ = absurd (h f refl)
none_declared stmts (i.ExportDefaultFunction f) _ _ _ _ h _ = absurd (h f refl)
none_declared stmts (i.Function f) _ _ _ _ _ h = absurd (h f refl)
none_declared stmts _ _ _ _ _ _ _ = refl

pub none_exported : (stmts : List Stmt) (node : ItemNode) → ((p : Box NamespaceExport Global) → node ≢ i.ExportAllAs p) → ((p : Box PassedExports Global) → node ≢ i.ExportFrom p) → ((es : Box (Vec ExportSpecifier Global) Global) → node ≢ i.ExportList es)
    → ((a : StmtId) → node ≢ i.ExportStatement a) → ((f : Box FunctionNode Global) → node ≢ i.ExportFunction f) → ((f : Box DefaultFunction Global) → node ≢ i.ExportDefaultFunction f)
    → exported_of (item_of stmts node) ≡ []
unfolding exported_of
none_exported stmts (i.ExportAllAs p) h _ _ _ _ _ = absurd (h p refl)
none_exported stmts (i.ExportFrom p) _ h _ _ _ _ = absurd (h p refl)
none_exported stmts (i.ExportList es) _ _ h _ _ _ = absurd (h es refl)
none_exported stmts (i.ExportStatement a) _ _ _ h _ _ = absurd (h a refl)
none_exported stmts (i.ExportFunction f) _ _ _ _ h _ = absurd (h f refl)
none_exported stmts (i.ExportDefaultFunction f) _ _ _ _ _ h = absurd (h f refl)
none_exported stmts _ _ _ _ _ _ _ = refl

pub none_listed : (stmts : List Stmt) (node : ItemNode) → ((es : Box (Vec ExportSpecifier Global) Global) → node ≢ i.ExportList es) → listed_of (item_of stmts node) ≡ []
unfolding listed_of
none_listed stmts (i.ExportList es) h = absurd (h es refl)
none_listed stmts _ h = refl

pub not_default : (exprs : List Expr) (stmts : List Stmt) (node : StmtNode) → ((v : Initializer) → node ≢ n.Default v) → statement_exported (stmt_of exprs stmts node) ≡ declared_names (stmt_of exprs stmts node)
unfolding statement_exported
not_default exprs stmts (n.Default v) h = absurd (h v refl)
not_default exprs stmts _ h = refl

-- ---- the next item

pub need_at : (k : ℕ) (xs : List ItemNode) (j : ℕ) (x : ItemNode) → AllAtMost k (items_need xs) → j < length xs → x ≡ get_or xs j x → item_need x ≤ k
need_at k [] j x h lt e = absurd (omega arith)
need_at k (y ∷ ys) zero x h lt e = let z = h.0 in let f = ap item_need e in omega (arith, z, f)
need_at k (y ∷ ys) (suc j) x h lt e = need_at k ys j x h.1 (omega arith) e

module _ (stmts : List Stmt) (xs : List ItemNode) (j : ℕ) (x : ItemNode) (e : drop j xs ≡ x ∷ drop (j + 1) xs) where
  pub exported_at : exported_names (items_of stmts (drop j xs)) ≡ exported_of (item_of stmts x) ++ exported_names (items_of stmts (drop (j + 1) xs))
  unfolding exported_names
  exported_at = ap (λ t. exported_names (items_of stmts t)) e

  pub declared_at : module_names (items_of stmts (drop j xs)) ≡ declared_of (item_of stmts x) ++ module_names (items_of stmts (drop (j + 1) xs))
  unfolding module_names
  declared_at = ap (λ t. module_names (items_of stmts t)) e

  pub wrong_at : (has : Text → Bool) → any_item_wrong has (items_of stmts (drop j xs)) ≡ ((list_any (is_unlisted has) (listed_of (item_of stmts x)) || any_clashes (item_scopes (item_of stmts x))) || any_item_wrong has (items_of stmts (drop (j + 1) xs)))
  unfolding any_item_wrong
  wrong_at has = ap (λ t. any_item_wrong has (items_of stmts t)) e

module _ (stmts : List Stmt) (xs : List ItemNode) (j : ℕ) (e : drop j xs ≡ []) where
  pub exported_past : exported_names (items_of stmts (drop j xs)) ≡ []
  unfolding exported_names
  exported_past = ap (λ t. exported_names (items_of stmts t)) e

  pub declared_past : module_names (items_of stmts (drop j xs)) ≡ []
  unfolding module_names
  declared_past = ap (λ t. module_names (items_of stmts t)) e

  pub wrong_past : (has : Text → Bool) → any_item_wrong has (items_of stmts (drop j xs)) ≡ false
  unfolding any_item_wrong
  wrong_past has = ap (λ t. any_item_wrong has (items_of stmts t)) e

-- ---- all items at once

four : (a b c d : Bool) → ((a || b) || (c || d)) ≡ ((a || c) || (b || d))
four true b c d = refl
four false true true d = refl
four false true false d = refl
four false false c d = refl

-- what an item has wrong is what all list and what all scopes have
wrong_parts : (has : Text → Bool) (xs : List Item) → any_item_wrong has xs ≡ (list_any (is_unlisted has) (listed_in xs) || any_clashes (module_scopes xs))
unfolding any_item_wrong listed_in module_scopes any_clashes
wrong_parts has [] = refl
wrong_parts has (x ∷ xs) =
    let a = list_any (is_unlisted has) (listed_of x) in
    let b = any_clashes (item_scopes x) in
    let c = list_any (is_unlisted has) (listed_in xs) in
    let d = any_clashes (module_scopes xs) in
    ap (λ r. (a || b) || r) (wrong_parts has xs) ∙ four a b c d
    ∙ (λ k. sym (any_append (is_unlisted has) (listed_of x) (listed_in xs)) k || sym (clashes_both (item_scopes x) (module_scopes xs)) k)

same_test : (f g : Text → Bool) → ((s : Text) → f s ≡ g s) → (es : List ExportSpecifier) → list_any (λ s. not (f s.first)) es ≡ list_any (λ s. not (g s.first)) es
same_test f g h [] = refl
same_test f g h (s ∷ ss) = λ k. not (h s.first k) || same_test f g h ss k

-- the errors in the order of the definition, from those in the order of the code
reorder : (e m u d s p t : Bool) → (e || (m || (u || (d || (s || (p || t)))))) ≡ (e || (t || (d || ((m || u) || (s || p)))))
reorder true m u d s p t = refl
reorder false true u d s p true = refl
reorder false false true d s p true = refl
reorder false false false true s p true = refl
reorder false false false false true p true = refl
reorder false false false false false true true = refl
reorder false false false false false false true = refl
reorder false true u true s p false = refl
reorder false false true true s p false = refl
reorder false false false true s p false = refl
reorder false true u false s p false = refl
reorder false false true false s p false = refl
reorder false false false false true p false = refl
reorder false false false false false true false = refl
reorder false false false false false false false = refl

pub errors_are : (xs : List Item) (has : Text → Bool) → ((s : Text) → has s ≡ has_text (module_names xs) s) → has_early_error xs ≡ (exports_twice xs || (exports_then xs || (declares_twice xs || any_item_wrong has xs)))
unfolding has_early_error lists_no_name lists_undeclared
errors_are xs has h =
    let no_name = list_any (λ s. not s.is_name) (listed_in xs) in
    let undeclared = list_any (λ s. not (has s.first)) (listed_in xs) in
    reorder (exports_twice xs) no_name (list_any (λ s. not (has_text (module_names xs) s.first)) (listed_in xs)) (declares_twice xs) (declares_twice_inside xs) (declares_parameter xs) (exports_then xs)
    ∙ ap (λ u. exports_twice xs || (exports_then xs || (declares_twice xs || ((no_name || u) || (declares_twice_inside xs || declares_parameter xs))))) (sym (same_test has (has_text (module_names xs)) h (listed_in xs)))
    ∙ ap (λ w. exports_twice xs || (exports_then xs || (declares_twice xs || w)))
    ((λ k. sym (any_both (λ s. not s.is_name) (λ s. not (has s.first)) (listed_in xs)) k || sym (scope_errors xs) k) ∙ sym (wrong_parts has xs))

or_true : (a : Bool) → (a || true) ≡ true
or_true true = refl
or_true false = refl

or_or_true : (a b : Bool) → (a || (b || true)) ≡ true
or_or_true true b = refl
or_or_true false true = refl
or_or_true false false = refl

-- the errors that are found before the others
module _ (xs : List Item) where
  rest : Bool
  rest = any_item_wrong (has_text (module_names xs)) xs

  all_are : has_early_error xs ≡ (exports_twice xs || (exports_then xs || (declares_twice xs || rest)))
  unfolding rest
  all_are = errors_are xs (has_text (module_names xs)) (λ s. refl)

  pub twice_first : exports_twice xs ≡ true → has_early_error xs ≡ true
  twice_first h = all_are ∙ ap (λ b. b || (exports_then xs || (declares_twice xs || rest))) h

  pub then_next : exports_then xs ≡ true → has_early_error xs ≡ true
  then_next h = all_are ∙ ap (λ b. exports_twice xs || (b || (declares_twice xs || rest))) h ∙ or_true (exports_twice xs)

  pub declares_next : declares_twice xs ≡ true → has_early_error xs ≡ true
  declares_next h = all_are ∙ ap (λ b. exports_twice xs || (exports_then xs || (b || rest))) h ∙ or_or_true (exports_twice xs) (exports_then xs)

  pub errors_last : (has : Text → Bool) → ((s : Text) → has s ≡ has_text (module_names xs) s) → exports_twice xs ≡ false → exports_then xs ≡ false → declares_twice xs ≡ false → has_early_error xs ≡ any_item_wrong has xs
  errors_last has h e t d = errors_are xs has h ∙ (λ k. e k || (t k || (d k || any_item_wrong has xs)))

-- ---- names that are no set

pub unset : (names : List (Bor Text)) (found : Option (BTreeSet (Bor Text))) → ((set : BTreeSet (Bor Text)) → found ≢ Some set) → IsSetOf names found → has_repeat (texts names) ≡ true
unset names None h twice = twice
unset names (Some set) h kept = absurd (h set refl)
