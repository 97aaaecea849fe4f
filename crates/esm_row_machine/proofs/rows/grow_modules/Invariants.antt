use Rattle.esm_row_machine.specs.Tables.{NoneNewIn}
use Rattle.esm_row_machine.proofs.rows.grow_modules.Given as goal

-- no row is new
abbrev pub invariant-growing : goal.invariant-growing
invariant-growing l = NoneNewIn l.fn.modules.items l.modules.items
