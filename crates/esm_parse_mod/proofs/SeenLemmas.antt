-- Which names stood before, in a loop that looks for a repeat.
use Rattle.std.proofs.Common.{◌≡◌, ℕ, ◌+◌, drop, Bool, true, false, ◌||◌, cond, List, [], ◌∷◌, ◌++◌, refl, sym, ap, ◌∙◌, append-nil, append_assoc}
use Rattle.std.proofs.Common.{◌≢◌, ◌<◌, ◌≤◌, max, arith, Vec, Box}
use Rattle.esm_tree.specs.declared.node.ItemNode.{ItemNode}
use Rattle.esm_tree.specs.declared.node.ItemNode.TheVariants as i
use Rattle.std.specs.declared.alloc.Global.{Global}
use Rattle.esm_tree.specs.declared.node.ExprId.{ExprId}
use Rattle.esm_tree.specs.declared.node.StmtNode.{StmtNode}
use Rattle.esm_tree.specs.declared.node.Branches.{Branches}
use Rattle.esm_tree.specs.declared.node.Attempt.{Attempt}
use Rattle.esm_tree.specs.declared.node.NamedAttempt.{NamedAttempt}
use Rattle.esm_tree.specs.declared.node.FunctionNode.{FunctionNode}
use Rattle.esm_tree.specs.declared.node.DefaultFunction.{DefaultFunction}
use Rattle.esm_tree.specs.declared.node.StmtNode.TheVariants as n
use Rattle.std.specs.Str.{bytes_eq}
use Rattle.std.specs.Borrow.{Bor}
use Rattle.std.specs.List.{list_any}
use Rattle.std.proofs.lemmas.Slice.Eq.{bytes_eq-Decides}
use Rattle.esm_grammar.specs.Names.{has_text}
use Rattle.esm_base.specs.Urls.{Text}
use Rattle.esm_tree.specs.Syntax.{Expr, Stmt, Stmts}
use Rattle.esm_tree.specs.Flat.{stmt_of, stmt_part, stmt_parts, stmts_need, AllStmtsBelow, item_of}
use Rattle.esm_tree.specs.declared.node.StmtId.{StmtId}
use Rattle.esm_grammar.specs.EarlyErrors.{Scope, has_repeat, share_name, block_names, scopes_of, stmt_scopes, stmts_scopes, item_scopes}
use Rattle.esm_parse_mod.specs.Inner.Names.{texts, clashes, any_clashes}
use Rattle.esm_parse_mod.proofs.NamesLemmas.{any_append, repeat_append}

by_sides : (a b : Bool) → (a ≡ true → b ≡ true) → (b ≡ true → a ≡ true) → a ≡ b
by_sides true b f g = sym (f refl)
by_sides false true f g = g refl
by_sides false false f g = refl

eq_swap : (xs ys : List ℕ) → bytes_eq xs ys ≡ bytes_eq ys xs
eq_swap xs ys = by_sides (bytes_eq xs ys) (bytes_eq ys xs) (λ h. (bytes_eq-Decides ys xs).1 (sym ((bytes_eq-Decides xs ys).0 h))) (λ h. (bytes_eq-Decides xs ys).1 (sym ((bytes_eq-Decides ys xs).0 h)))

texts_append : (as' bs : List (Bor Text)) → texts (as' ++ bs) ≡ texts as' ++ texts bs
unfolding texts
texts_append [] bs = refl
texts_append (a ∷ as') bs = ap (λ r. a.now ∷ r) (texts_append as' bs)

or_false : (a : Bool) → (a || false) ≡ a
or_false true = refl
or_false false = refl

or_true : (a : Bool) → (a || true) ≡ true
or_true true = refl
or_true false = refl

-- two lists share a name that is in both
share_step : (b h s rest : Bool) → ((b || h) ≡ true) → (h ≡ true → s ≡ true) → ((b || rest) || s) ≡ true
share_step true h s rest e f = refl
share_step false h s rest e f = ap (λ r. rest || r) (f e) ∙ or_true rest

share_true : (ds : List Text) (r : Text) (rest : List Text) → has_text ds r ≡ true → share_name ds (r ∷ rest) ≡ true
unfolding share_name has_text
share_true [] r rest h = h
share_true (d ∷ ds) r rest h = share_step (bytes_eq r d) (list_any (λ s. bytes_eq s r) ds) (share_name ds (r ∷ rest)) _ (ap (λ e. e || list_any (λ s. bytes_eq s r) ds) (eq_swap r d) ∙ h) (share_true ds r rest)

share_one : (ds : List Text) (r : Text) → share_name ds (r ∷ []) ≡ has_text ds r
unfolding share_name has_text
share_one [] r = refl
share_one (d ∷ ds) r = let e = or_false (bytes_eq r d) ∙ eq_swap r d in let f = share_one ds r in λ i. e i || f i

one_repeat : (r : Text) → has_repeat (r ∷ []) ≡ false
unfolding has_repeat has_text
one_repeat r = refl

either : (a b : Bool) → cond a true b ≡ (b || (a || false))
either true true = refl
either true false = refl
either false true = refl
either false false = refl

at_end : (ds : List Text) (x q : Text) → cond (bytes_eq x q) true (has_text ds q) ≡ has_text (ds ++ x ∷ []) q
unfolding has_text
at_end ds x q = either (bytes_eq x q) (list_any (λ s. bytes_eq s q) ds) ∙ sym (any_append (λ s. bytes_eq s q) ds (x ∷ []))

-- those before are distinct, and these are the ones that the set has
pub record Seen (names rest : List (Bor Text)) (holds : Bor Text → Bool) : Type 0 where
  pub done : List (Bor Text)
  pub split : names ≡ done ++ rest
  pub distinct : has_repeat (texts done) ≡ false
  pub same : (q : Bor Text) → holds q ≡ has_text (texts done) q.now

pub seen_none : (names : List (Bor Text)) (holds : Bor Text → Bool) → ((q : Bor Text) → holds q ≡ false) → Seen names names holds
unfolding has_repeat texts has_text
seen_none names holds h = record { done = []; split = refl; distinct = refl; same = h }

module _ (names : List (Bor Text)) (r : Bor Text) (rest : List (Bor Text)) (holds : Bor Text → Bool) (seen : Seen names (r ∷ rest) holds) where
  pub seen_twice : holds r ≡ true → has_repeat (texts names) ≡ true
  unfolding texts
  seen_twice h =
      let there = share_true (texts seen.done) r.now (texts rest) (sym (seen.same r) ∙ h) in
      ap (λ t. has_repeat (texts t)) seen.split ∙ ap has_repeat (texts_append seen.done (r ∷ rest)) ∙ repeat_append (texts seen.done) (r.now ∷ texts rest)
      ∙ ap (λ s. (has_repeat (texts seen.done) || s) || has_repeat (r.now ∷ texts rest)) there ∙ ap (λ s. s || has_repeat (r.now ∷ texts rest)) (or_true (has_repeat (texts seen.done)))

  pub seen_more : (other : Bor Text → Bool) → holds r ≡ false → ((q : Bor Text) → other q ≡ cond (bytes_eq r.now q.now) true (holds q)) → Seen names rest other
  unfolding texts
  seen_more other h more =
      let not_there : has_text (texts seen.done) r.now ≡ false = sym (seen.same r) ∙ h in
      let pushed = texts_append seen.done (r ∷ []) in
      record {
        done = seen.done ++ r ∷ [];
        split = seen.split ∙ sym (append_assoc seen.done (r ∷ []) rest);
        distinct = ap has_repeat pushed ∙ repeat_append (texts seen.done) (r.now ∷ []) ∙ (λ i. (seen.distinct i || (share_one (texts seen.done) r.now ∙ not_there) i) || one_repeat r.now i);
        same = λ q. more q ∙ ap (cond (bytes_eq r.now q.now) true) (seen.same q) ∙ at_end (texts seen.done) r.now q.now ∙ ap (λ t. has_text t q.now) (sym pushed);
      }

pub seen_all : (names : List (Bor Text)) (holds : Bor Text → Bool) → Seen names [] holds → has_repeat (texts names) ≡ false
seen_all names holds seen = ap (λ t. has_repeat (texts t)) (seen.split ∙ append-nil seen.done) ∙ seen.distinct

pub seen_same : (names : List (Bor Text)) (holds : Bor Text → Bool) → Seen names [] holds → (q : Bor Text) → holds q ≡ has_text (texts names) q.now
seen_same names holds seen q = seen.same q ∙ ap (λ t. has_text (texts t) q.now) (sym (append-nil seen.done) ∙ sym seen.split)

-- a name is the next, or among the others
pub has_next : (ns : List (Bor Text)) (i : ℕ) (r : Bor Text) (w : Text) → drop i ns ≡ r ∷ drop (i + 1) ns → has_text (texts (drop i ns)) w ≡ (bytes_eq r.now w || has_text (texts (drop (i + 1) ns)) w)
unfolding has_text texts
has_next ns i r w e = ap (λ t. has_text (texts t) w) e

pub has_none : (ns : List (Bor Text)) (i : ℕ) (w : Text) → drop i ns ≡ [] → has_text (texts (drop i ns)) w ≡ false
unfolding has_text texts
has_none ns i w e = ap (λ t. has_text (texts t) w) e

-- a scope clashes, or one in it
pub clash_here : (ps : List Text) (ss : Stmts) → any_clashes (scopes_of ps ss) ≡ (has_repeat (ps ++ block_names ss) || any_clashes (stmts_scopes ss))
unfolding any_clashes clashes scopes_of
clash_here ps ss = refl

pub clashes_next : (stmts : List Stmt) (ids : List StmtId) (i : ℕ) (id : StmtId) → drop i ids ≡ id ∷ drop (i + 1) ids
    → any_clashes (stmts_scopes (stmt_parts stmts (drop i ids))) ≡ (any_clashes (stmt_scopes (stmt_part stmts id)) || any_clashes (stmts_scopes (stmt_parts stmts (drop (i + 1) ids))))
unfolding any_clashes stmts_scopes
clashes_next stmts ids i id e = ap (λ t. any_clashes (stmts_scopes (stmt_parts stmts t))) e ∙ any_append clashes (stmt_scopes (stmt_part stmts id)) (stmts_scopes (stmt_parts stmts (drop (i + 1) ids)))

pub clashes_none : (stmts : List Stmt) (ids : List StmtId) (i : ℕ) → drop i ids ≡ [] → any_clashes (stmts_scopes (stmt_parts stmts (drop i ids))) ≡ false
unfolding any_clashes stmts_scopes
clashes_none stmts ids i e = ap (λ t. any_clashes (stmts_scopes (stmt_parts stmts t))) e

pub clashes_both : (xs ys : List Scope) → any_clashes (xs ++ ys) ≡ (any_clashes xs || any_clashes ys)
unfolding any_clashes
clashes_both xs ys = any_append clashes xs ys

pub other_scopes : (exprs : List Expr) (stmts : List Stmt) (node : StmtNode) → ((a : Vec StmtId Global) → node ≢ n.Block a) → ((e : ExprId) (a : Vec StmtId Global) → node ≢ n.If e a) → ((e : ExprId) (p : Box Branches Global) → node ≢ n.IfElse e p) → ((p : Box Attempt Global) → node ≢ n.Try p) → ((p : Box NamedAttempt Global) → node ≢ n.TryCatch p) → stmt_scopes (stmt_of exprs stmts node) ≡ []
unfolding stmt_scopes
other_scopes exprs stmts (n.Block a) h _ _ _ _ = absurd (h a refl)
other_scopes exprs stmts (n.If e a) _ h _ _ _ = absurd (h e a refl)
other_scopes exprs stmts (n.IfElse e p) _ _ h _ _ = absurd (h e p refl)
other_scopes exprs stmts (n.Try p) _ _ _ h _ = absurd (h p refl)
other_scopes exprs stmts (n.TryCatch p) _ _ _ _ h = absurd (h p refl)
other_scopes exprs stmts _ _ _ _ _ _ = refl

pub none_first : (ps : List Text) → texts [] ++ ps ≡ ps
unfolding texts
none_first ps = refl

first_below : (a b n : ℕ) → max (a + 1) b ≤ n → (a < n) × (b ≤ n)
first_below a b n h = (omega arith, omega arith)

pub below_needs : (n : ℕ) (ids : List StmtId) → stmts_need ids ≤ n → AllStmtsBelow n ids
below_needs n [] h = tt
below_needs n (id ∷ ids) h = let p = first_below id.0 (stmts_need ids) n h in (p.0, below_needs n ids p.1)

pub other_items : (stmts : List Stmt) (node : ItemNode) → ((a : StmtId) → node ≢ i.ExportStatement a) → ((a : StmtId) → node ≢ i.Statement a) → ((f : Box FunctionNode Global) → node ≢ i.ExportFunction f)
    → ((f : Box DefaultFunction Global) → node ≢ i.ExportDefaultFunction f) → ((f : Box FunctionNode Global) → node ≢ i.Function f) → item_scopes (item_of stmts node) ≡ []
unfolding item_scopes
other_items stmts (i.ExportStatement a) h _ _ _ _ = absurd (h a refl)
other_items stmts (i.Statement a) _ h _ _ _ = absurd (h a refl)
other_items stmts (i.ExportFunction f) _ _ h _ _ = absurd (h f refl)
other_items stmts (i.ExportDefaultFunction f) _ _ _ h _ = absurd (h f refl)
other_items stmts (i.Function f) _ _ _ _ h = absurd (h f refl)
other_items stmts _ _ _ _ _ _ = refl
