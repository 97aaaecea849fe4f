use Rattle.std.proofs.Common.{◌≡◌, ℕ, ◌==◌, false, true, List, [], ◌∷◌, Some, refl, sym, ap, ◌∙◌, arith, length-drop}
use Rattle.std.proofs.lemmas.List.{drop-drop}
use Rattle.esm_grammar.specs.Reading.{pick, ◌>>=◌}
use Rattle.esm_grammar.specs.Characters.{is_digit, is_line_terminator}
use Rattle.esm_grammar.specs.Strings.{Code, escape, one, unicode, skip_line_feed}
use Rattle.esm_lexer.proofs.Fronts.{skip, skip_one, range_is, head_is, none_left}
use Rattle.esm_lexer.proofs.escapes.escape.Goals as goal

pub returns-in_default : goal.returns-in_default
unfolding escape
returns-in_default c = rw (none_left _ c.in_default.len_below) refl

pub returns-then-is_nul : goal.returns-then-is_nul
unfolding escape pick
returns-then-is_nul c =
    let x = rw (range_is 1 c.args.text.now) at c.if-is_nul.ensures in
    (rw (head_is _ _ c.in-len1-up.len_at_least c.c-item.is) (rw (← c.if-is_digit.ensures, ← x) refl), c.in-len1-up.len_at_least)

pub returns-then-is_digit : goal.returns-then-is_digit
unfolding escape pick
returns-then-is_digit c =
    let x = rw (range_is 1 c.args.text.now) at c.if-is_nul.ensures in
    rw (head_is _ _ c.in-len1-up.len_at_least c.c-item.is) (rw (← c.if-is_digit.ensures, ← x) refl)

pub returns-in-Some : goal.returns-in-Some
unfolding escape one pick ◌>>=◌
returns-in-Some c =
    let x = rw (range_is 1 c.args.text.now) at c.in-Some.ensures in (
      rw (head_is _ _ c.in-len1-up.len_at_least c.c-item.is) (rw (← c.if-is_digit.ensures, ← c.if-is.ensures, x.0, c.scalar.ensures, drop-drop 2 1 c.args.text.now) refl),
      omega (arith, x.1.1, length-drop 1 c.args.text.now),
    )

pub returns-in-None : goal.returns-in-None
unfolding escape one pick ◌>>=◌
returns-in-None c =
    let x = rw (range_is 1 c.args.text.now) at c.in-None.ensures in
    rw (head_is _ _ c.in-len1-up.len_at_least c.c-item.is) (rw (← c.if-is_digit.ensures, ← c.if-is.ensures, x) refl)

by_unicode : (text : List ℕ) (x : ℕ) (rest : List ℕ) → text ≡ x ∷ rest → false ≡ is_digit x → false ≡ (x == 120) → true ≡ (x == 117) → escape text ≡ one (unicode rest)
unfolding escape pick
by_unicode text x rest e a b d = rw e (rw (← a, ← b, ← d) refl)

one_of : (code : Code) (x : ℕ) (rest : List ℕ) → code ≡ Some (x, rest) → one code ≡ Some (x ∷ [], rest)
unfolding one ◌>>=◌
one_of code x rest e = rw e refl

pub returns-in-Some-unicode : goal.returns-in-Some-unicode
returns-in-Some-unicode c =
    let text = c.args.text.now in
    let x = rw (range_is 1 text) at c.in-Some-unicode.ensures in (
      by_unicode _ _ _ (head_is _ _ c.in-len1-up.len_at_least c.c-item.is) c.if-is_digit.ensures c.if-is.ensures c.if-is-2.ensures
          ∙ one_of _ _ _ x.0
          ∙ (λ i. Some (sym c.scalar-in-Some-unicode.ensures i ∷ [], skip text c.in-Some-unicode.n i)),
      omega (arith, x.1.1, length-drop 1 text),
    )

pub returns-in-None-unicode : goal.returns-in-None-unicode
unfolding escape one pick ◌>>=◌
returns-in-None-unicode c =
    let x = rw (range_is 1 c.args.text.now) at c.in-None-unicode.ensures in
    rw (head_is _ _ c.in-len1-up.len_at_least c.c-item.is) (rw (← c.if-is_digit.ensures, ← c.if-is.ensures, ← c.if-is-2.ensures, x) refl)

ends : (text : List ℕ) (x : ℕ) (rest : List ℕ) → text ≡ x ∷ rest → false ≡ is_digit x → false ≡ (x == 120) → false ≡ (x == 117) → true ≡ is_line_terminator x
    → escape text ≡ Some ([], pick (x == 13) (skip_line_feed rest) rest)
unfolding escape pick
ends text x rest e a b d f = rw e (rw (← a, ← b, ← d, ← f) refl)

pub returns-then-is_line_terminator : goal.returns-then-is_line_terminator
returns-then-is_line_terminator c =
    let text = c.args.text.now in
    let feed = rw (range_is 1 text) at c.line_feed.ensures.value in
    let within = rw (range_is 1 text) at c.line_feed.ensures.within in (
      ends text _ _ (head_is _ _ c.in-len1-up.len_at_least c.c-item.is) c.if-is_digit.ensures c.if-is.ensures c.if-is-2.ensures c.if-is_line_terminator.ensures
          ∙ ap (λ r. Some ([], r)) (feed ∙ skip_one text c.line_feed.result),
      omega (arith, within, length-drop 1 text),
    )

pub returns-else-is_line_terminator : goal.returns-else-is_line_terminator
unfolding escape pick
returns-else-is_line_terminator c =
    (rw (head_is _ _ c.in-len1-up.len_at_least c.c-item.is) (rw (← c.if-is_digit.ensures, ← c.if-is.ensures, ← c.if-is-2.ensures, ← c.if-is_line_terminator.ensures, c.single.ensures) refl), c.in-len1-up.len_at_least)
