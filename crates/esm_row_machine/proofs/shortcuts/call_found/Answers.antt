use Rattle.std.proofs.Common.{refl}
use Rattle.esm_row_machine.proofs.shortcuts.call_found.Goals as goal

pub returns-in-Ok : goal.returns-in-Ok
returns-in-Ok g c = c.in-Ok.ensures c.args.rows.now c.in-Some.ensures

pub returns-in-Err : goal.returns-in-Err
returns-in-Err g c = c.in-Err.ensures c.args.rows.now c.in-Some.ensures

pub returns-in-None : goal.returns-in-None
returns-in-None g c = (record { world = refl; stacks = refl; frame = refl }, λ callee few w0 h ws body calls fit. tt)
