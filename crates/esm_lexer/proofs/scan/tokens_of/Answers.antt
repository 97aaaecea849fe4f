use Rattle.std.proofs.Common.{◌<◌, ◌≤◌, length, sym, ap, map, ◌∙◌, arith}
use Rattle.std.proofs.lemmas.List.{map_more, take_all}
use Rattle.esm_grammar.specs.Lexeme.{no_lexeme}
use Rattle.esm_lexer.specs.Tokens.{token_of}
use Rattle.esm_lexer.proofs.scan.tokens_of.Goals as goal

pub loop-at-preserved : goal.loop-at-preserved
loop-at-preserved c =
    let l = c.loop-at in
    let lt : l.at < length c.args.lexemes.now = omega (arith, c.loop-at-test.true, c.len-at-end.ensures.value) in
    rw (c.in_ok-push.ensures.items, c.token.ensures, l.invariant) (sym (map_more token_of c.args.lexemes.now l.at no_lexeme lt))

pub returns : goal.returns
returns c =
    let l = c.loop-at in
    let le : length c.args.lexemes.now ≤ l.at = omega (arith, c.loop-at-test.false, c.len-at-end.ensures.value) in
    l.invariant ∙ ap (map token_of) (take_all l.at c.args.lexemes.now le)
