use Rattle.esm_lexer.proofs.ListLemmas.{below, beyond, terminal_found, terminal_missing}
use Rattle.esm_lexer.proofs.list.LexemeList.terminal.Goals as goal

pub returns-in-Some-clause-value : goal.returns-in-Some-clause-value
returns-in-Some-clause-value c =
    let found = rw c.deref.ensures.value at c.in-Some.ensures.lookup in
    rw (← c.self.view_is) (terminal_found _ _ _ _ c.in-Some.mark.now (below _ _ found.0) found.1)

pub returns-in-None-clause-value : goal.returns-in-None-clause-value
returns-in-None-clause-value c =
    let missing = rw c.deref.ensures.value at c.in-None.ensures.lookup in
    rw (← c.self.view_is) (terminal_missing _ _ _ _ (beyond _ _ missing.0))
