use Rattle.std.proofs.Common.{◌≡◌, ℕ, ◌==◌, true, sym, arith, ◌∙◌}
use Rattle.std.proofs.lemmas.Bool.Decides.{nat_tests}
use Rattle.std.proofs.lemmas.List.{get_or_read}
use Rattle.esm_lexer.proofs.Fronts.{range_is}
use Rattle.esm_lexer.proofs.LiteralLemmas.{plain_literal}
use Rattle.esm_lexer.proofs.literal.plain.Goals as goal

same_of : (x y : ℕ) → true ≡ (x == y) → x ≡ y
same_of x y h = grind (arith, nat_tests)

pub front-requires : goal.front-requires
front-requires c = record { within = omega arith; source = c.requires.source }

pub returns : goal.returns
returns c =
    let text = c.args.text.now in
    let first = get_or_read text 0 _ c.requires.there c.index-text-0.is 0 in
    let again = get_or_read text 0 _ c.requires.there c.index-text-0-2.is 0 in
    let plain = rw (range_is 1 text) at c.plain_len-n.ensures.before in
    let value = rw (range_is 1 text) at c.front-2.ensures.first in
    rw (← first) (plain_literal text _ _ c.plain_len-n.result _ (omega arith) plain c.index-text-n.is (same_of _ _ (sym c.if-not-is.false ∙ c.is.ensures) ∙ again ∙ sym first) value)
