use Rattle.std.proofs.Common.{◌≡◌, ℕ, ◌==◌, true, List, ◌∷◌, Some, refl, ap, ◌∙◌, arith, length-drop}
use Rattle.esm_grammar.specs.Reading.{pick}
use Rattle.esm_grammar.specs.Strings.{piece, escape}
use Rattle.esm_lexer.specs.Inner.Pieces.{chars_of}
use Rattle.esm_lexer.proofs.Fronts.{skip, range_is, head_is, none_left}
use Rattle.esm_lexer.proofs.escapes.piece.Goals as goal

pub returns-in_default-clause-some : goal.returns-in_default-clause-some
unfolding piece
returns-in_default-clause-some c = rw (none_left _ c.in_default.len_below) refl

by_escape : (q : ℕ) (text : List ℕ) (x : ℕ) (rest : List ℕ) → text ≡ x ∷ rest → true ≡ (x == 92) → piece q text ≡ escape rest
unfolding piece pick
by_escape q text x rest e h = rw e (rw (← h) refl)

pub returns-in-Some-clause-some : goal.returns-in-Some-clause-some
returns-in-Some-clause-some c =
    let text = c.args.text.now in
    let x = rw (range_is 1 text) at c.in-Some.ensures in (
      by_escape _ _ _ _ (head_is _ _ c.in-len1-up.len_at_least c.c-item.is) c.if-is.ensures ∙ x.0 ∙ ap (λ r. Some (chars_of c.in-Some.value, r)) (skip text c.in-Some.n),
      omega (arith, x.1, length-drop 1 text),
    )

pub returns-in-None-clause-some : goal.returns-in-None-clause-some
unfolding piece pick
returns-in-None-clause-some c =
    let x = rw (range_is 1 c.args.text.now) at c.in-None.ensures in
    rw (head_is _ _ c.in-len1-up.len_at_least c.c-item.is) (rw (← c.if-is.ensures, x) refl)

pub returns-then-is_plain-clause-some : goal.returns-then-is_plain-clause-some
unfolding piece pick
returns-then-is_plain-clause-some c =
    (rw (head_is _ _ c.in-len1-up.len_at_least c.c-item.is) (rw (← c.if-is.ensures, ← c.if-is_plain.ensures) refl), c.in-len1-up.len_at_least)

pub returns-else-is_plain-clause-some : goal.returns-else-is_plain-clause-some
unfolding piece pick
returns-else-is_plain-clause-some c = rw (head_is _ _ c.in-len1-up.len_at_least c.c-item.is) (rw (← c.if-is.ensures, ← c.if-is_plain.ensures) refl)
