use Rattle.esm_env.specs.Placed.{names_of}
use Rattle.esm_rows.proofs.Owned.{Owning}
use Rattle.esm_rows.proofs.owns.own_ops.Given as goal

-- as many operations, told as before
abbrev pub invariant-loop-at : goal.invariant-loop-at
invariant-loop-at l = Owning (names_of l.scope) l.texts l.fn.ops.items l.ops.items
