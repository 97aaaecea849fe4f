use Rattle.std.proofs.Common.{◌≡◌, ℕ, ◌<◌, true, get_or}
use Rattle.esm_grammar.specs.Strings.{is_plain}
use Rattle.esm_lexer.proofs.literal.plain_len.Given as goal

abbrev pub invariant-loop-i : goal.invariant-loop-i
invariant-loop-i l = (k : ℕ) → k < l.i → is_plain l.quote (get_or l.text k 0) ≡ true
