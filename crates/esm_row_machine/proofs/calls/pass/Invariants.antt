use Rattle.esm_row_machine.proofs.Passed.{Left}
use Rattle.esm_row_machine.proofs.calls.pass.Given as goal

-- what is there and what is left are the whole
abbrev pub invariant-passing : goal.invariant-passing
invariant-passing l = Left l.parameters l.values l.fn.names.items l.place l.names.items
