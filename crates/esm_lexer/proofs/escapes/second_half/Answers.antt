use Rattle.std.proofs.Common.{refl, sym, inr, arith, length-drop}
use Rattle.std.proofs.lemmas.List.{drop-drop}
use Rattle.esm_grammar.specs.Reading.{◌>>=◌, pick}
use Rattle.esm_grammar.specs.Strings.{second_half}
use Rattle.esm_lexer.proofs.Fronts.{range_is, heads_are}
use Rattle.esm_lexer.proofs.StringLemmas.{second_half_short, high_range, low_range}
use Rattle.esm_lexer.proofs.escapes.second_half.Goals as goal

pub returns-in_default : goal.returns-in_default
returns-in_default c = second_half_short _ _ c.in_default.len_below

pub returns-then-not-are : goal.returns-then-not-are
unfolding second_half pick
returns-then-not-are c = rw (heads_are _ _ _ c.in-len2-up.len_at_least c.b-item.is c.u-item.is) (rw (← c.are.ensures, c.if-not-are.true) refl)

pub overflow_sub-result : goal.overflow_sub-result
overflow_sub-result c = (high_range c.args.high c.requires).0

pub overflow_mul-result : goal.overflow_mul-result
overflow_mul-result c = omega (arith, (high_range c.args.high c.requires).1)

pub overflow_sub-result-then-is_low : goal.overflow_sub-result-then-is_low
overflow_sub-result-then-is_low c = (low_range c.in-Some.low (sym c.if-is_low.ensures)).0

pub overflow_add-result : goal.overflow_add-result
overflow_add-result c = omega (arith, (high_range c.args.high c.requires).1, (low_range c.in-Some.low (sym c.if-is_low.ensures)).1)

pub overflow_add-result-then-is_low : goal.overflow_add-result-then-is_low
overflow_add-result-then-is_low c = omega (arith, (high_range c.args.high c.requires).1, (low_range c.in-Some.low (sym c.if-is_low.ensures)).1)

pub returns-then-is_low : goal.returns-then-is_low
unfolding second_half pick ◌>>=◌
returns-then-is_low c =
    let y = rw (range_is 2 c.args.text.now) at c.in-Some.ensures in
    let h = high_range c.args.high c.requires in
    let l = low_range c.in-Some.low (sym c.if-is_low.ensures) in (
      rw (heads_are _ _ _ c.in-len2-up.len_at_least c.b-item.is c.u-item.is) (rw (← c.are.ensures, c.if-not-are.false, y.0, ← c.if-is_low.ensures, drop-drop 4 2 c.args.text.now) refl),
      (inr (omega (arith, h.0, l.0), omega (arith, h.1, l.1)), omega (arith, y.1.1, length-drop 2 c.args.text.now)),
    )

pub returns-else-is_low : goal.returns-else-is_low
unfolding second_half pick ◌>>=◌
returns-else-is_low c =
    let y = rw (range_is 2 c.args.text.now) at c.in-Some.ensures in
    rw (heads_are _ _ _ c.in-len2-up.len_at_least c.b-item.is c.u-item.is) (rw (← c.are.ensures, c.if-not-are.false, y.0, ← c.if-is_low.ensures) refl)

pub returns-in-None : goal.returns-in-None
unfolding second_half pick ◌>>=◌
returns-in-None c =
    let y = rw (range_is 2 c.args.text.now) at c.in-None.ensures in
    rw (heads_are _ _ _ c.in-len2-up.len_at_least c.b-item.is c.u-item.is) (rw (← c.are.ensures, c.if-not-are.false, y) refl)
