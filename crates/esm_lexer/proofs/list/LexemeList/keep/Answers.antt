use Rattle.esm_lexer.proofs.ListLemmas.{kept_right, last_right, last_pushed, same_lexemes, on_err}
use Rattle.esm_lexer.proofs.list.LexemeList.keep.Goals as goal

pub invariant_of-self-in_err-push-2 : goal.invariant_of-self-in_err-push-2
invariant_of-self-in_err-push-2 c = rw (c.in_ok-push.ensures.items, c.in_err-push-2.ensures.items) (kept_right _ _ c.args.lexeme _ c.self.invariant)

pub returns-in_err-push-2-clause-err : goal.returns-in_err-push-2-clause-err
returns-in_err-push-2-clause-err c =
    rw (← c.self.view_is, c.in_ok-push.ensures.items, c.in_err-push-2.ensures.items) (on_err _ _ (same_lexemes _ _ c.args.lexeme _ c.self.invariant))

pub invariant_of-self-2 : goal.invariant_of-self-2
invariant_of-self-2 c =
    rw (c.in_ok-push.ensures.items, c.in_ok-push-2.ensures.items, c.len-place.ensures, c.self.inside.kept.ok.0, c.terminal.ensures, c.newline_before.ensures) (last_right _ _ c.args.lexeme _ c.self.invariant)

pub returns-clause-ok : goal.returns-clause-ok
returns-clause-ok c =
    rw (← c.self.view_is, c.in_ok-push.ensures.items, c.in_ok-push-2.ensures.items, c.len-place.ensures, c.self.inside.kept.ok.0, c.terminal.ensures, c.newline_before.ensures) (last_pushed _ _ _ c.args.lexeme c.self.invariant)
