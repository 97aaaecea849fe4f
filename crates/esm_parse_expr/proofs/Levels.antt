-- From one level of operators to the next.
use Rattle.std.proofs.Common.{◌≡◌, ℕ, zero, suc, false, List, Some, None, refl, ◌∙◌}
use Rattle.esm_tree.specs.Syntax.{Expr, Exprs, Sum, And, Or}
use Rattle.esm_tree.specs.declared.lexeme.Terminal.{Terminal}
use Rattle.esm_tree.specs.declared.lexeme.Terminal.TheVariants as t
use Rattle.esm_tree.specs.Lexeme.{Lexeme}
use Rattle.esm_grammar.specs.Lexeme.{terminal_at}
use Rattle.esm_grammar.specs.Reading.{Read, ◌>>=◌, pick, same}
use Rattle.esm_grammar.specs.Reading as read
use Rattle.esm_parse_expr.specs.Inner.Operators.{joined_with, compared_with, is_operator}

module _ (ts : List Lexeme) (whole : ℕ → Read Expr) (n i : ℕ) where
  pub sum_gone : read.unary ts whole n n i ≡ None → read.sum ts whole n i ≡ None
  unfolding read.sum read.chain ◌>>=◌
  sum_gone gone = rw gone refl

  pub equal_gone : read.sum ts whole n i ≡ None → read.equal ts whole n i ≡ None
  unfolding read.equal ◌>>=◌
  equal_gone gone = rw gone refl

  pub both_gone : read.equal ts whole n i ≡ None → read.both ts whole n i ≡ None
  unfolding read.both read.chain ◌>>=◌
  both_gone gone = rw gone refl

  pub either_gone : read.both ts whole n i ≡ None → read.either ts whole n i ≡ None
  unfolding read.either read.chain ◌>>=◌
  either_gone gone = rw gone refl

  module _ (e : Expr) (k : ℕ) where
    pub sum_is : read.unary ts whole n n i ≡ Some (e, k) → read.sum ts whole n i ≡ joined_with Sum e (read.further ts t.Plus (read.unary ts whole n n) n k)
    unfolding read.sum read.chain joined_with ◌>>=◌
    sum_is one = rw one refl

    pub equal_is : read.sum ts whole n i ≡ Some (e, k) → read.equal ts whole n i ≡ compared_with e (read.comparisons ts (read.sum ts whole n) n k)
    unfolding read.equal compared_with ◌>>=◌
    equal_is one = rw one refl

    pub both_is : read.equal ts whole n i ≡ Some (e, k) → read.both ts whole n i ≡ joined_with And e (read.further ts t.AndAnd (read.equal ts whole n) n k)
    unfolding read.both read.chain joined_with ◌>>=◌
    both_is one = rw one refl

    pub either_is : read.both ts whole n i ≡ Some (e, k) → read.either ts whole n i ≡ joined_with Or e (read.further ts t.OrOr (read.both ts whole n) n k)
    unfolding read.either read.chain joined_with ◌>>=◌
    either_is one = rw one refl

-- ---- an operand alone

record NoOperator (x : Terminal) : Type 0 where
  plus : false ≡ same x t.Plus
  is_same : false ≡ same x t.Same
  differs : false ≡ same x t.Differs
  both : false ≡ same x t.AndAnd
  either : false ≡ same x t.OrOr

no_operator : (x : Terminal) → is_operator x ≡ false → NoOperator x
unfolding same
no_operator t.Plus h = absurd (cc)
no_operator t.Same h = absurd (cc)
no_operator t.Differs h = absurd (cc)
no_operator t.AndAnd h = absurd (cc)
no_operator t.OrOr h = absurd (cc)
no_operator _ h = record { plus = refl; is_same = refl; differs = refl; both = refl; either = refl }

no_further : (ts : List Lexeme) (s : Terminal) (make : Expr → Exprs → Expr) (operand : ℕ → Read Expr) (m k : ℕ) (e : Expr) → false ≡ same (terminal_at ts k) s → joined_with make e (read.further ts s operand (suc m) k) ≡ Some (e, k)
unfolding joined_with read.further pick ◌>>=◌
no_further ts s make operand m k e h = rw (← h) refl

no_comparison : (ts : List Lexeme) (operand : ℕ → Read Expr) (m k : ℕ) (e : Expr) → false ≡ same (terminal_at ts k) t.Same → false ≡ same (terminal_at ts k) t.Differs → compared_with e (read.comparisons ts operand (suc m) k) ≡ Some (e, k)
unfolding compared_with read.comparisons pick ◌>>=◌
no_comparison ts operand m k e h g = rw (← h, ← g) refl

-- an operand behind which no operator stands is the whole expression
pub alone : (ts : List Lexeme) (whole : ℕ → Read Expr) (n i : ℕ) (e : Expr) (k : ℕ) → is_operator (terminal_at ts k) ≡ false → read.unary ts whole n n i ≡ Some (e, k) → read.either ts whole n i ≡ Some (e, k)
unfolding read.unary
alone ts whole zero i e k h one = absurd (cc)
alone ts whole (suc m) i e k h one =
    let n = suc m in
    let no = no_operator (terminal_at ts k) h in
    let summed : read.sum ts whole n i ≡ Some (e, k) = sum_is ts whole n i e k one ∙ no_further ts t.Plus Sum (read.unary ts whole n n) m k e no.plus in
    let equal : read.equal ts whole n i ≡ Some (e, k) = equal_is ts whole n i e k summed ∙ no_comparison ts (read.sum ts whole n) m k e no.is_same no.differs in
    let both : read.both ts whole n i ≡ Some (e, k) = both_is ts whole n i e k equal ∙ no_further ts t.AndAnd And (read.equal ts whole n) m k e no.both in
    either_is ts whole n i e k both ∙ no_further ts t.OrOr Or (read.both ts whole n) m k e no.either
