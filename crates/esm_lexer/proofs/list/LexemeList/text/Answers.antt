use Rattle.esm_lexer.proofs.ListLemmas.{below, beyond, text_found, text_missing, right_at}
use Rattle.esm_lexer.proofs.list.LexemeList.text.Goals as goal

pub spelled-requires : goal.spelled-requires
spelled-requires c =
    let found = rw c.deref.ensures.value at c.in-Some.ensures.lookup in
    rw c.deref-in-Some.ensures.value (right_at _ _ _ _ c.in-Some.mark.now c.self.invariant (below _ _ found.0) found.1)

pub returns-in-Some : goal.returns-in-Some
returns-in-Some c =
    let found = rw c.deref.ensures.value at c.in-Some.ensures.lookup in
    let text = rw c.deref-in-Some.ensures.value at c.spelled.ensures in
    rw (← c.self.view_is, text) (text_found _ _ _ _ c.in-Some.mark.now (below _ _ found.0) found.1)

pub returns-in-None : goal.returns-in-None
returns-in-None c =
    let missing = rw c.deref.ensures.value at c.in-None.ensures.lookup in
    rw (← c.self.view_is) (text_missing _ _ _ _ (beyond _ _ missing.0))
