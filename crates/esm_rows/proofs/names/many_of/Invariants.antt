use Rattle.std.specs.Prelude.{None}
use Rattle.esm_rows.proofs.Found.{Finding}
use Rattle.esm_rows.proofs.names.many_of.Given as goal

-- the blocks before this one were counted, and nothing was looked for in them
abbrev pub invariant-loop-at : goal.invariant-loop-at
invariant-loop-at l = Finding l.fn.blocks (λ ns. None) l.at None l.many
