use Rattle.std.proofs.Common.{refl}
use Rattle.esm_row_machine.proofs.Refusing.{begun_by}
use Rattle.esm_row_machine.proofs.calls.begin.Goals as goal

pub returns-in-Ok : goal.returns-in-Ok
returns-in-Ok c =
    begun_by c.args.machine.now c.enter.new.machine c.args.rows.now c.args.frame c.args.function c.args.arguments c.in-Some.row.now c.in-Some.ensures c.in-Ok.callee c.in-Ok.ensures
    (record c.enter.new.machine { frames = c.wait.new.frames }) refl refl refl c.wait.result c.wait.ensures
