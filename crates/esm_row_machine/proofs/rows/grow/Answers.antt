use Rattle.esm_row_machine.proofs.Adding.{none_same, none_grown}
use Rattle.esm_row_machine.proofs.rows.grow.Goals as goal

pub growing-init : goal.growing-init
growing-init c = none_same c.args.rows.now.items

pub growing-preserved : goal.growing-preserved
growing-preserved c = rw c.in_ok-push.ensures.items (none_grown c.args.rows.now.items c.growing.rows.items c.growing.invariant)
