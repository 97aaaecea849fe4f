use Rattle.esm_lexer.proofs.ListLemmas.{mark_right, mark_pushed}
use Rattle.esm_lexer.proofs.list.LexemeList.push.Goals as goal

pub invariant_of-self-in-Some : goal.invariant_of-self-in-Some
invariant_of-self-in-Some c = rw c.in_ok-push-in-Some.ensures.items (mark_right _ _ _ _ c.self.invariant c.in-Some.ensures.right)

pub returns-in_ok-push-in-Some-clause-ok : goal.returns-in_ok-push-in-Some-clause-ok
returns-in_ok-push-in-Some-clause-ok c = rw (← c.self.view_is, c.in_ok-push-in-Some.ensures.items) (mark_pushed _ _ _ _ _ c.in-Some.ensures.right c.in-Some.ensures.same)
