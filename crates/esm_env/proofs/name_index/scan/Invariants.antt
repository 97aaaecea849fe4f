use Rattle.esm_env.proofs.NameIndexes.{NoneBefore}
use Rattle.esm_env.proofs.name_index.scan.Given as goal

-- none so far has the name
abbrev pub invariant-loop-at : goal.invariant-loop-at
invariant-loop-at g l = NoneBefore g.T.HasName.own_name l.list l.at l.wanted
