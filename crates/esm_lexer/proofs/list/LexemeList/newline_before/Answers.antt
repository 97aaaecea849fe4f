use Rattle.esm_lexer.proofs.ListLemmas.{below, beyond, newline_found, newline_missing}
use Rattle.esm_lexer.proofs.list.LexemeList.newline_before.Goals as goal

pub returns-in-Some : goal.returns-in-Some
returns-in-Some c =
    let found = rw c.deref.ensures.value at c.in-Some.ensures.lookup in
    rw (← c.self.view_is) (newline_found _ _ _ _ c.in-Some.mark.now (below _ _ found.0) found.1)

pub returns-in-None : goal.returns-in-None
returns-in-None c =
    let missing = rw c.deref.ensures.value at c.in-None.ensures.lookup in
    rw (← c.self.view_is) (newline_missing _ _ _ _ (beyond _ _ missing.0))
