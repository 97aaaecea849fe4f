use Rattle.std.proofs.Common.{◌≡◌, ℕ, Bool, true, false, not, ◌==◌, List, length, get_or, refl, ap, arith}
use Rattle.std.proofs.lemmas.Bool.Decides.{nat_tests}
use Rattle.std.proofs.lemmas.Slice.Eq.{bytes_eq-Decides}
use Rattle.esm_grammar.specs.Terminals as terminals
use Rattle.esm_lexer.proofs.words.differ_early.Goals as goal

false_of : (b : Bool) → (b ≡ true → ⊥) → b ≡ false
false_of true h = absurd (h refl)
false_of false h = refl

others : (xs ys : List ℕ) → (xs ≡ ys → ⊥) → terminals.is xs ys ≡ false
unfolding terminals.is
others xs ys h = false_of _ (λ e. h ((bytes_eq-Decides xs ys).0 e))

unequal : (x y : ℕ) → not (x == y) ≡ true → x ≡ y → ⊥
unequal x y h e = grind (arith, nat_tests)

pub returns-then-word-other : goal.returns-then-word-other
returns-then-word-other c _ = others _ _ (λ e. c.if-word-other.true (ap length e))

pub returns : goal.returns
returns c h = others _ _ (λ e. unequal _ _ h (ap (λ l. get_or l 0 0) e))
