use Rattle.std.proofs.Common.{◌≡◌, ℕ, ◌==◌, true, false, List, ◌∷◌, Some, refl, ap, ◌∙◌, arith, length-drop}
use Rattle.esm_grammar.specs.Reading.{pick}
use Rattle.esm_grammar.specs.Strings.{unicode, braced, four_digits}
use Rattle.esm_lexer.proofs.Fronts.{skip, range_is, head_is, none_left}
use Rattle.esm_lexer.proofs.escapes.unicode.Goals as goal

pub returns-in_default : goal.returns-in_default
unfolding unicode
returns-in_default c = rw (none_left _ c.in_default.len_below) refl

by_brace : (text : List ℕ) (x : ℕ) (rest : List ℕ) → text ≡ x ∷ rest → true ≡ (x == 123) → unicode text ≡ braced 0 false rest
unfolding unicode pick
by_brace text x rest e h = rw e (rw (← h) refl)

pub returns-in-Some : goal.returns-in-Some
returns-in-Some c =
    let text = c.args.text.now in
    let x = rw (range_is 1 text) at c.in-Some.ensures in (
      by_brace _ _ _ (head_is _ _ c.in-len1-up.len_at_least c.c-item.is) c.if-is.ensures ∙ x.0 ∙ ap (λ r. Some (c.in-Some.code, r)) (skip text c.in-Some.n),
      (x.1.0, omega (arith, x.1.1, length-drop 1 text)),
    )

pub returns-in-None : goal.returns-in-None
unfolding unicode pick
returns-in-None c =
    let x = rw (range_is 1 c.args.text.now) at c.in-None.ensures in
    rw (head_is _ _ c.in-len1-up.len_at_least c.c-item.is) (rw (← c.if-is.ensures, x) refl)

by_four : (text : List ℕ) (x : ℕ) (rest : List ℕ) → text ≡ x ∷ rest → false ≡ (x == 123) → unicode text ≡ four_digits text
unfolding unicode pick
by_four text x rest e h = rw e (rw (← h) refl)

pub returns-else-is : goal.returns-else-is
returns-else-is c = rw (by_four _ _ _ (head_is _ _ c.in-len1-up.len_at_least c.c-item.is) c.if-is.ensures) c.four_digits.ensures
