-- The comparisons that a loop gathers.
use Rattle.std.proofs.Common.{◌≡◌, ℕ, zero, suc, ◌+◌, ◌<◌, ◌≤◌, Bool, true, false, List, [], ◌∷◌, ◌++◌, length, Some, None, refl, sym, ap, ◌∙◌, arith}
use Rattle.esm_tree.specs.Syntax.{Expr, Equal, Compared, last, compared, Parts}
use Rattle.esm_tree.specs.Flat.{part, compared_parts, AllComparedBelow}
use Rattle.esm_tree.specs.declared.node.ExprId.{ExprId}
use Rattle.esm_tree.proofs.FlatLemmas.{compared_parts_stay}
use Rattle.esm_tree.specs.Lexeme.{Lexeme}
use Rattle.esm_grammar.specs.Lexeme.{terminal_at}
use Rattle.esm_grammar.specs.Grammar.{compares}
use Rattle.esm_grammar.specs.Reading.{Read, ◌>>=◌, pick, same}
use Rattle.esm_grammar.specs.Reading as read
use Rattle.esm_parse_expr.specs.Outcome.{Grows}
use Rattle.esm_parse_expr.specs.Inner.Operators.{compared_with, Compares, EndsComparison}

abbrev pub append : Compared → Compared → Compared
append last ds = ds
append (compared b e cs) ds = compared b e (append cs ds)

append-last : (cs : Compared) → append cs last ≡ cs
append-last last = refl
append-last (compared b e cs) = ap (compared b e) (append-last cs)

append-assoc : (a b c : Compared) → append (append a b) c ≡ append a (append b c)
append-assoc last b c = refl
append-assoc (compared x e a) b c = ap (compared x e) (append-assoc a b c)

pub below_push : (m n : ℕ) (cs : List (Bool × ExprId)) (b : Bool) (id : ExprId) → m ≤ n → AllComparedBelow m cs → id.0 < n → AllComparedBelow n (cs ++ (b, id) ∷ [])
below_push m n [] b id le h lt = (lt, tt)
below_push m n (c ∷ cs) b id le h lt = (omega (arith, h.0), below_push m n cs b id le h.1 lt)

push : (es : List Expr) (cs : List (Bool × ExprId)) (b : Bool) (id : ExprId) → compared_parts es (cs ++ (b, id) ∷ []) ≡ append (compared_parts es cs) (compared b (part es id) last)
push es [] b id = refl
push es (c ∷ cs) b id = ap (compared c.0 (part es c.1)) (push es cs b id)

pub pushed : (a b : Parts) (cs : List (Bool × ExprId)) (s : Bool) (id : ExprId) → Grows a b → AllComparedBelow (length a.exprs) cs → compared_parts b.exprs (cs ++ (s, id) ∷ []) ≡ append (compared_parts a.exprs cs) (compared s (part b.exprs id) last)
pushed a b cs s id p h =
    push b.exprs cs s id
    ∙ ap (λ d. append d (compared s (part b.exprs id) last)) (ap (λ (t : Parts). compared_parts t.exprs cs) p.is ∙ compared_parts_stay a.exprs p.added cs h)

pub none_compared : (es : List Expr) (e : Expr) (cs : List (Bool × ExprId)) → length cs ≡ 0 → compares e (compared_parts es cs) ≡ e
none_compared es e [] h = refl
none_compared es e (x ∷ cs) h = absurd (omega arith)

pub some_compared : (es : List Expr) (e : Expr) (cs : List (Bool × ExprId)) → (length cs ≡ 0 → ⊥) → compares e (compared_parts es cs) ≡ Equal e (compared_parts es cs)
some_compared es e [] h = absurd (h refl)
some_compared es e (x ∷ cs) h = refl

unfoldable pub gathered : Expr → Compared → Read Compared → Read Expr
gathered e d rest = rest >>= λ cs. Some (compares e (append d cs.0), cs.1)

gathered_more : (e : Expr) (d : Compared) (b : Bool) (f : Expr) (rest : Read Compared) → gathered e d (rest >>= λ cs. Some (compared b f cs.0, cs.1)) ≡ gathered e (append d (compared b f last)) rest
unfolding gathered ◌>>=◌
gathered_more e d b f None = refl
gathered_more e d b f (Some r) = ap (λ x. Some (compares e x, r.1)) (sym (append-assoc d (compared b f last) r.0))

pub from_first : (e : Expr) (rest : Read Compared) → compared_with e rest ≡ gathered e last rest
unfolding compared_with gathered
from_first e rest = refl

module _ (ts : List Lexeme) (operand : ℕ → Read Expr) (e : Expr) (d : Compared) (n k : ℕ) where
  pub comparisons_over : gathered e d (read.comparisons ts operand zero k) ≡ None
  unfolding gathered read.comparisons ◌>>=◌
  comparisons_over = refl

  pub comparisons_done : EndsComparison (terminal_at ts k) → gathered e d (read.comparisons ts operand (suc n) k) ≡ Some (compares e d, k)
  unfolding gathered read.comparisons pick ◌>>=◌
  comparisons_done h = rw (← h.0, ← h.1) (ap (λ x. Some (compares e x, k)) (append-last d))

  pub comparisons_refused : (b : Bool) → Compares b (terminal_at ts k) → operand (k + 1) ≡ None → gathered e d (read.comparisons ts operand (suc n) k) ≡ None
  unfolding gathered read.comparisons pick ◌>>=◌
  comparisons_refused true h gone = rw (← h, gone) refl
  comparisons_refused false h gone = rw (← h.0, ← h.1, gone) refl

  pub comparisons_one : (b : Bool) (f : Expr) (j : ℕ) → Compares b (terminal_at ts k) → operand (k + 1) ≡ Some (f, j) → gathered e d (read.comparisons ts operand (suc n) k) ≡ gathered e (append d (compared b f last)) (read.comparisons ts operand n j)
  unfolding read.comparisons pick ◌>>=◌
  comparisons_one true f j h one = rw (← h, one) (gathered_more e d true f (read.comparisons ts operand n j))
  comparisons_one false f j h one = rw (← h.0, ← h.1, one) (gathered_more e d false f (read.comparisons ts operand n j))
