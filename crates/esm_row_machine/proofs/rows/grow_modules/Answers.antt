use Rattle.esm_row_machine.proofs.Adding.{rows_same, rows_grown}
use Rattle.esm_row_machine.proofs.rows.grow_modules.Goals as goal

pub growing-init : goal.growing-init
growing-init c = rows_same c.args.modules.now.items

pub growing-preserved : goal.growing-preserved
growing-preserved c = rw c.in_ok-push.ensures.items (rows_grown c.args.modules.now.items c.growing.modules.items (record { rows = c.new-rows.result }) c.new-rows.ensures.items c.growing.invariant)
