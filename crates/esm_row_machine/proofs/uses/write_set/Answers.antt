use Rattle.std.proofs.Common.{refl}
use Rattle.esm_row_machine.proofs.uses.write_set.Goals as goal

pub returns-then-constant : goal.returns-then-constant
returns-then-constant g c = rw c.if-constant.true (refl, refl, c.throw_named.ensures)

pub returns-else-constant : goal.returns-else-constant
returns-else-constant g c = rw c.if-constant.false (refl, c.set_local.ensures)
