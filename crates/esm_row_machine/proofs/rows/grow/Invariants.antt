use Rattle.esm_row_machine.specs.Tables.{NoneNew}
use Rattle.esm_row_machine.proofs.rows.grow.Given as goal

-- no row is new
abbrev pub invariant-growing : goal.invariant-growing
invariant-growing l = NoneNew l.fn.rows.items l.rows.items
