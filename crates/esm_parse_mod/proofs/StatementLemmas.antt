-- The end of a statement, and lists of statements and bindings.
use Rattle.std.proofs.Common.{◌≡◌, ◌≢◌, ℕ, ◌+◌, ◌<◌, ◌≤◌, max, Bool, true, false, not, List, [], ◌∷◌, ◌++◌, length, map, get_or, Some, None, Ok, refl, sym, ap, ◌∙◌, arith, append-nil, length-append}
use Rattle.std.proofs.Math.Seq.{get_or-append_seam}
use Rattle.esm_tree.specs.Flat.{stmt_of, need_of}
use Rattle.esm_tree.specs.declared.node.StmtNode.{StmtNode}
use Rattle.esm_tree.specs.Syntax.{Expr, Init, Bindings, no_more, binding, Stmt, Stmts, Parts}
use Rattle.esm_tree.specs.Syntax as x
use Rattle.esm_tree.specs.Flat.{init_of, init_need, bindings_of, bindings_need, stmt_part, stmt_parts, AllStmtsBelow}
use Rattle.esm_tree.specs.declared.node.StmtId.{StmtId}
use Rattle.esm_tree.specs.declared.node.LexicalBinding.{LexicalBinding}
use Rattle.esm_tree.specs.Lexeme.{Lexeme}
use Rattle.esm_grammar.specs.Reading.{Read, ◌>>=◌, pick}
use Rattle.esm_tree.specs.declared.lexeme.Terminal.{Terminal}
use Rattle.esm_tree.specs.declared.lexeme.Terminal.TheVariants as t
use Rattle.esm_grammar.specs.ReadingStatements as r
use Rattle.esm_grammar.specs.ReadingStatements.{end_of}
use Rattle.esm_parse_mod.specs.Inner.Outcome.{Grew, ReadsStmt}
use Rattle.esm_parse_mod.proofs.OutcomeLemmas.{stmt_later, init_later}
use Rattle.esm_parse_mod.proofs.Lists.{onto}

value : {X : Type 0} {x y : X} → Some x ≡ Some y → x ≡ y
value e = cc

-- the end of anything is that of nothing
module _ {A : Type 0} (a : A) (i : ℕ) where
  by : (s m : Bool) (j : ℕ) → ◌≡◌ {A = Read (Unit {0})} (pick s (Some (tt {0}, i + 1)) (pick m (Some (tt {0}, i)) None)) (Some (tt {0}, j)) → ◌≡◌ {A = Read A} (pick s (Some (a, i + 1)) (pick m (Some (a, i)) None)) (Some (a, j))
  unfolding pick
  by true m j h = let e : i + 1 ≡ j = ap (λ (p : Unit {0} × ℕ). p.1) (value h) in ap (λ k. Some (a, k)) e
  by false true j h = let e : i ≡ j = ap (λ (p : Unit {0} × ℕ). p.1) (value h) in ap (λ k. Some (a, k)) e
  by false false j h = absurd (cc)

  by_none : (s m : Bool) → ◌≡◌ {A = Read (Unit {0})} (pick s (Some (tt {0}, i + 1)) (pick m (Some (tt {0}, i)) None)) None → ◌≡◌ {A = Read A} (pick s (Some (a, i + 1)) (pick m (Some (a, i)) None)) None
  unfolding pick
  by_none true m h = absurd (cc)
  by_none false true h = absurd (cc)
  by_none false false h = refl

  pub end_of_any : (ts : List Lexeme) (continued : Bool) (j : ℕ) → end_of ts continued (tt {0}) i ≡ Some (tt {0}, j) → end_of ts continued a i ≡ Some (a, j)
  unfolding end_of
  end_of_any ts continued j h = by _ _ j h

  pub end_of_none : (ts : List Lexeme) (continued : Bool) → end_of ts continued (tt {0}) i ≡ None → end_of ts continued a i ≡ None
  unfolding end_of
  end_of_none ts continued h = by_none _ _ h

-- lists of parts
abbrev pub stmt_list : (t : Parts) → List StmtId → List Stmt
stmt_list t ids = map (λ id. stmt_part t.stmts id) ids

pub below_push : (n : ℕ) (ids : List StmtId) (id : StmtId) → AllStmtsBelow n ids → id.0 < n → AllStmtsBelow n (ids ++ id ∷ [])
below_push n [] id h lt = (lt, tt)
below_push n (x ∷ ids) id h lt = (h.0, below_push n ids id h.1 lt)

-- one more statement
pub added : (old new : Parts) (node : StmtNode) (id : StmtId) (behind : ℕ) → new ≡ record old { stmts = old.stmts ++ stmt_of old.exprs old.stmts node ∷ []; needs = old.needs ++ need_of node ∷ [] } → id.0 ≡ length old.stmts
    → ReadsStmt old new (Ok (id, behind)) (Some (stmt_of old.exprs old.stmts node, behind))
added old new node id behind e i =
    let grew : Grew old new = record {
      exprs = [];
      stmts = stmt_of old.exprs old.stmts node ∷ [];
      needs = need_of node ∷ [];
      is = e ∙ (λ j. record old { exprs = sym (append-nil old.exprs) j; stmts = old.stmts ++ stmt_of old.exprs old.stmts node ∷ []; needs = old.needs ++ need_of node ∷ [] });
    } in
    let more = ap (λ (t : Parts). length t.stmts) e in
    let there : get_or new.stmts id.0 x.Empty ≡ stmt_of old.exprs old.stmts node =
    ap (λ (t : Parts). get_or t.stmts id.0 x.Empty) e ∙ ap (λ k. get_or (old.stmts ++ stmt_of old.exprs old.stmts node ∷ []) k x.Empty) i ∙ get_or-append_seam old.stmts (stmt_of old.exprs old.stmts node) [] x.Empty in
    record { grows = grew; gives = (omega (arith, more, i, length-append old.stmts (stmt_of old.exprs old.stmts node ∷ [])), ap (λ s. Some (s, behind)) (sym there)) }

-- bindings so far
abbrev pub binding_list : (t : Parts) → List LexicalBinding → List (List ℕ × Init)
binding_list t [] = []
binding_list t (b ∷ bs) = (b.name, init_of t.exprs b.value) ∷ binding_list t bs

pub binding_list_onto : (cons : List ℕ × Init → Bindings → Bindings) → ((b : List ℕ × Init) (bs : Bindings) → cons b bs ≡ binding b.0 b.1 bs) → (t : Parts) (bs : List LexicalBinding) → onto no_more cons (binding_list t bs) no_more ≡ bindings_of t.exprs bs
binding_list_onto cons is t [] = refl
binding_list_onto cons is t (b ∷ bs) = is _ _ ∙ ap (binding b.name (init_of t.exprs b.value)) (binding_list_onto cons is t bs)

pub binding_list_push : (t : Parts) (bs : List LexicalBinding) (b : LexicalBinding) → binding_list t (bs ++ b ∷ []) ≡ binding_list t bs ++ (b.name, init_of t.exprs b.value) ∷ []
binding_list_push t [] b = refl
binding_list_push t (y ∷ bs) b = ap (λ r. (y.name, init_of t.exprs y.value) ∷ r) (binding_list_push t bs b)

max_first : (a b n : ℕ) → max a b ≤ n → a ≤ n
max_first a b n h = omega arith

max_second : (a b n : ℕ) → max a b ≤ n → b ≤ n
max_second a b n h = omega arith

max_both : (a b n : ℕ) → a ≤ n → b ≤ n → max a b ≤ n
max_both a b n h g = omega arith

pub binding_list_later : (a b : Parts) (bs : List LexicalBinding) → Grew a b → bindings_need bs ≤ length a.exprs → binding_list b bs ≡ binding_list a bs
binding_list_later a b [] g h = refl
binding_list_later a b (y ∷ bs) g h =
    let one = init_later a b y.value g (max_first (init_need y.value) (bindings_need bs) _ h) in
    let others = binding_list_later a b bs g (max_second (init_need y.value) (bindings_need bs) _ h) in
    λ i. (y.name, one i) ∷ others i

pub need_push : (n : ℕ) (bs : List LexicalBinding) (b : LexicalBinding) → bindings_need bs ≤ n → init_need b.value ≤ n → bindings_need (bs ++ b ∷ []) ≤ n
need_push n [] b h le = max_both (init_need b.value) 0 n le (omega arith)
need_push n (y ∷ bs) b h le = max_both (init_need y.value) (bindings_need (bs ++ b ∷ [])) n (max_first (init_need y.value) (bindings_need bs) n h) (need_push n bs b (max_second (init_need y.value) (bindings_need bs) n h) le)

-- statements so far
pub stmts_onto : (t : Parts) (ids : List StmtId) → onto x.nothing x.first (stmt_list t ids) x.nothing ≡ stmt_parts t.stmts ids
stmts_onto t [] = refl
stmts_onto t (id ∷ ids) = ap (x.first (stmt_part t.stmts id)) (stmts_onto t ids)

pub stmt_list_push : (t : Parts) (ids : List StmtId) (id : StmtId) → stmt_list t (ids ++ id ∷ []) ≡ stmt_list t ids ++ stmt_part t.stmts id ∷ []
stmt_list_push t [] id = refl
stmt_list_push t (y ∷ ids) id = ap (λ r. stmt_part t.stmts y ∷ r) (stmt_list_push t ids id)

pub stmt_list_later : (a b : Parts) (ids : List StmtId) → Grew a b → AllStmtsBelow (length a.stmts) ids → stmt_list b ids ≡ stmt_list a ids
stmt_list_later a b [] g h = refl
stmt_list_later a b (y ∷ ids) g h = let one = stmt_later a b y g h.0 in let others = stmt_list_later a b ids g h.1 in λ i. one i ∷ others i

pub not_so : (b : Bool) → not b ≡ true → b ≡ false
not_so true h = absurd (cc)
not_so false h = refl

pub so : (b : Bool) → not b ≡ false → b ≡ true
so true h = refl
so false h = absurd (cc)

-- what is ended, made into something
module _ {A B : Type 0} (make : A → B) where
  by_map : (a : A) (i : ℕ) (s m : Bool) (y : A × ℕ) → ◌≡◌ {A = Read A} (pick s (Some (a, i + 1)) (pick m (Some (a, i)) None)) (Some y) → ◌≡◌ {A = Read B} (pick s (Some (make a, i + 1)) (pick m (Some (make a, i)) None)) (Some (make y.0, y.1))
  unfolding pick
  by_map a i true m y h = ap (λ (p : A × ℕ). Some (make p.0, p.1)) (value h)
  by_map a i false true y h = ap (λ (p : A × ℕ). Some (make p.0, p.1)) (value h)
  by_map a i false false y h = absurd (cc)

  by_map_none : (a : A) (i : ℕ) (s m : Bool) → ◌≡◌ {A = Read A} (pick s (Some (a, i + 1)) (pick m (Some (a, i)) None)) None → ◌≡◌ {A = Read B} (pick s (Some (make a, i + 1)) (pick m (Some (make a, i)) None)) None
  unfolding pick
  by_map_none a i true m h = absurd (cc)
  by_map_none a i false true h = absurd (cc)
  by_map_none a i false false h = refl

  pub made : (ts : List Lexeme) (read : Read A) (y : A × ℕ) → (read >>= λ x. end_of ts false x.0 x.1) ≡ Some y → (read >>= λ x. end_of ts false (make x.0) x.1) ≡ Some (make y.0, y.1)
  unfolding end_of ◌>>=◌
  made ts None y h = absurd (cc)
  made ts (Some r) y h = by_map r.0 r.1 _ _ y h

  pub not_made : (ts : List Lexeme) (read : Read A) → (read >>= λ x. end_of ts false x.0 x.1) ≡ None → (read >>= λ x. end_of ts false (make x.0) x.1) ≡ None
  unfolding end_of ◌>>=◌
  not_made ts None h = refl
  not_made ts (Some r) h = by_map_none r.0 r.1 _ _ h

-- any other token begins an expression
pub other_statement : (ts : List Lexeme) (n : ℕ) (inside : Bool) (block : ℕ → Read Stmts) (s : Terminal) (i : ℕ) → (s ≢ t.BraceOpen) → (s ≢ t.Semicolon) → (s ≢ t.Const) → (s ≢ t.Let) → (s ≢ t.If) → (s ≢ t.Try) → (s ≢ t.Throw) → (s ≢ t.Return) → (s ≢ t.Await) → r.stmt_by ts n inside block s i ≡ r.expression ts n inside i
other_statement ts n inside block t.BraceOpen i h _ _ _ _ _ _ _ _ = absurd (h refl)
other_statement ts n inside block t.Semicolon i _ h _ _ _ _ _ _ _ = absurd (h refl)
other_statement ts n inside block t.Const i _ _ h _ _ _ _ _ _ = absurd (h refl)
other_statement ts n inside block t.Let i _ _ _ h _ _ _ _ _ = absurd (h refl)
other_statement ts n inside block t.If i _ _ _ _ h _ _ _ _ = absurd (h refl)
other_statement ts n inside block t.Try i _ _ _ _ _ h _ _ _ = absurd (h refl)
other_statement ts n inside block t.Throw i _ _ _ _ _ _ h _ _ = absurd (h refl)
other_statement ts n inside block t.Return i _ _ _ _ _ _ _ h _ = absurd (h refl)
other_statement ts n inside block t.Await i _ _ _ _ _ _ _ _ h = absurd (h refl)
other_statement ts n inside block _ i _ _ _ _ _ _ _ _ _ = refl
