use Rattle.std.proofs.Common.{◌≡◌, ◌++◌}
use Rattle.std.specs.Prelude.{None, replicate}
use Rattle.esm_row_machine.proofs.stacks.begin_names.Given as goal

abbrev pub invariant-loop-begun : goal.invariant-loop-begun
invariant-loop-begun l = l.names.items ≡ l.fn.names.items ++ replicate l.begun None
