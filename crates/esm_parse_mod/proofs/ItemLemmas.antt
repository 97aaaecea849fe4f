-- Reading items.
use Rattle.std.proofs.Common.{◌≡◌, ◌≢◌, ℕ, ◌+◌, ◌<◌, ◌≤◌, max, Bool, true, false, List, [], ◌∷◌, Some, None, Result, Ok, Err, refl, sym, subst, ap, ◌∙◌, arith, nat_le}
use Rattle.std.proofs.lemmas.Bool.Decides.{nat_tests}
use Rattle.esm_tree.specs.Syntax.{Stmt, Stmts, Item, ExportStatement, Parts}
use Rattle.esm_tree.specs.Flat.{AllStmtsBelow, stmts_need}
use Rattle.esm_tree.specs.declared.node.StmtId.{StmtId}
use Rattle.esm_tree.specs.declared.node.ItemNode.{ItemNode}
use Rattle.esm_tree.specs.declared.lexeme.Terminal.{Terminal}
use Rattle.esm_tree.specs.declared.lexeme.Terminal.TheVariants as t
use Rattle.esm_tree.specs.Lexeme.{Lexeme}
use Rattle.esm_grammar.specs.Reading.{Read, ◌>>=◌, pick}
use Rattle.esm_grammar.specs.ReadingItems as r
use Rattle.esm_parse_expr.specs.declared.reader.Stop.{Stop}
use Rattle.esm_parse_expr.specs.declared.reader.Stop.TheVariants as end
use Rattle.esm_parse_mod.specs.Inner.Outcome.{ReadsItem}
use Rattle.esm_parse_mod.specs.Inner.Items.{ReadsBare, body}
use Rattle.esm_parse_expr.specs.Outcome.{Refuses}
use Rattle.esm_parse_mod.proofs.OutcomeLemmas.{grew_none}
use Rattle.esm_parse_mod.proofs.NameLemmas.{refuses}

both : (a b n : ℕ) → a < n → b ≤ n → max (a + 1) b ≤ n
both a b n h g = omega arith

pub needs_below : (n : ℕ) (ids : List StmtId) → AllStmtsBelow n ids → stmts_need ids ≤ n
needs_below n [] h = omega arith
needs_below n (id ∷ ids) h = both id.0 (stmts_need ids) n h.0 (needs_below n ids h.1)

-- a function is made of its parameters and its body
module _ (make : List (List ℕ) → Stmts → Item) where
  abbrev paired : List (List ℕ) → Read Stmts → Read (List (List ℕ) × Stmts)
  paired ps read = read >>= λ s. Some ((ps, s.0), s.1)

  abbrev direct : List (List ℕ) → Read Stmts → Read Item
  direct ps read = read >>= λ s. Some (make ps s.0, s.1)

  abbrev made : Read (List (List ℕ) × Stmts) → Read Item
  made read = read >>= λ x. Some (make x.0.0 x.0.1, x.1)

  by_stmts : (ps : List (List ℕ)) (s : Read Stmts) → direct ps s ≡ made (paired ps s)
  unfolding ◌>>=◌
  by_stmts ps None = refl
  by_stmts ps (Some s) = refl

  by_body : (b : Bool) (ps : Read (List (List ℕ))) (f : ℕ → Read Stmts) → pick {A = Read Item} b (ps >>= λ p. direct p.0 (f p.1)) None ≡ made (pick b (ps >>= λ p. paired p.0 (f p.1)) None)
  unfolding pick ◌>>=◌
  by_body false ps f = refl
  by_body true None f = refl
  by_body true (Some p) f = by_stmts p.0 (f p.1)

  pub rest_made : (ts : List Lexeme) (n i : ℕ) → r.rest ts n make i ≡ (body ts n i >>= λ x. Some (make x.0.0 x.0.1, x.1))
  unfolding r.rest body
  rest_made ts n i = by_body _ _ _

  pub rest_is : (ts : List Lexeme) (n i : ℕ) (ps : List (List ℕ)) (ss : Stmts) (j : ℕ) → body ts n i ≡ Some ((ps, ss), j) → r.rest ts n make i ≡ Some (make ps ss, j)
  unfolding ◌>>=◌
  rest_is ts n i ps ss j h = rest_made ts n i ∙ rw h refl

  pub rest_none : (ts : List Lexeme) (n i : ℕ) → body ts n i ≡ None → r.rest ts n make i ≡ None
  unfolding ◌>>=◌
  rest_none ts n i h = rest_made ts n i ∙ rw h refl

-- a refusal, and so of what it is a part of
pub bare_refused : {A : Type 0} (e : Stop) (r : Result (ItemNode × ℕ) Stop) (read : Read A) (other : Read Item)
    → Refuses e read → ((y : Stop) × (r ≡ Err y) × (y ≡ e)) → (read ≡ None → other ≡ None) → ReadsBare r other
bare_refused e r read other h s f =
    let is : Err e ≡ r = sym (s.1 ∙ ap Err s.2) in
    let P : Result _ Stop → Type 0 = λ x. ReadsBare x other in
    subst P is (refuses e read other f h)

-- an item that names no statement, in any tree
pub bare_item : (t : Parts) (r : Result (ItemNode × ℕ) Stop) (read other : Read Item) → ReadsBare r read → other ≡ read → ReadsItem t t r other
bare_item t (Ok (node, j)) read other h e = record { grows = grew_none t; gives = (let z = h.0 in omega (arith, z), e ∙ h.1 t.stmts) }
bare_item t (Err end.Fault) read other h e = record { grows = grew_none t; gives = e ∙ h }
bare_item t (Err end.Memory) read other h e = record { grows = grew_none t; gives = tt }

-- no other token stands behind `export`
pub other_export : (ts : List Lexeme) (n : ℕ) (s : Terminal) (i : ℕ) → (s ≢ t.Star) → (s ≢ t.BraceOpen) → (s ≢ t.Const) → (s ≢ t.Let) → (s ≢ t.Function) → (s ≢ t.Default) → r.export_by ts n s i ≡ None
other_export ts n t.Star i h _ _ _ _ _ = absurd (h refl)
other_export ts n t.BraceOpen i _ h _ _ _ _ = absurd (h refl)
other_export ts n t.Const i _ _ h _ _ _ = absurd (h refl)
other_export ts n t.Let i _ _ _ h _ _ = absurd (h refl)
other_export ts n t.Function i _ _ _ _ h _ = absurd (h refl)
other_export ts n t.Default i _ _ _ _ _ h = absurd (h refl)
other_export ts n _ i _ _ _ _ _ _ = refl

value : {X : Type 0} {x y : X} → Some x ≡ Some y → x ≡ y
value e = cc

-- an exported statement is that statement
pub same_statement : (a b : Stmt × ℕ) → Some a ≡ Some b → ◌≡◌ {A = Read Item} (Some (ExportStatement a.0, a.1)) (Some (ExportStatement b.0, b.1))
same_statement a b h = let e : a ≡ b = value h in ap (λ (x : Stmt × ℕ). Some (ExportStatement x.0, x.1)) e

-- a test of a bound
pub at_least : (m n : ℕ) → m ≤ n → nat_le m n ≡ true
at_least m n h = grind (arith, nat_tests)

pub not_least : (m n : ℕ) → n < m → nat_le m n ≡ false
not_least m n h = grind (arith, nat_tests)
