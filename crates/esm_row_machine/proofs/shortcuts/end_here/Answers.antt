use Rattle.std.proofs.Common.{refl}
use Rattle.std.specs.Prelude.{Ok, Err, Some}
use Rattle.esm_row_machine.proofs.AtOnce.{ends_op}
use Rattle.esm_row_machine.proofs.shortcuts.end_here.Goals as goal

pub returns-then-is_empty : goal.returns-then-is_empty
returns-then-is_empty g c = λ left. (record { world = refl; stacks = refl; frame = refl }, λ row h ws body at st is fit. tt)

pub returns-in-Ok : goal.returns-in-Ok
returns-in-Ok g c = λ left. (c.in-Ok.ensures.0, ends_op g.W.Outside.state g.W.Outside.modules g.W.Outside.linked g.W.Outside.begins g.W.Outside.ready g.W.Outside.keeps g.W.Outside.owns (record { itself = g.met.W.Outside.keeps_itself; both = g.met.W.Outside.keeps_both; stays = g.met.W.Outside.stays }) c.args.world.now c.args.machine.now c.args.rows.now c.args.frame.now (Ok (Some c.in-Ok.row)) c.resume_here.new.machine c.resume_here.new.frame c.in-Ok.ensures.1 left)

pub returns-in-Err : goal.returns-in-Err
returns-in-Err g c = λ left. (c.in-Err.ensures.0, ends_op g.W.Outside.state g.W.Outside.modules g.W.Outside.linked g.W.Outside.begins g.W.Outside.ready g.W.Outside.keeps g.W.Outside.owns (record { itself = g.met.W.Outside.keeps_itself; both = g.met.W.Outside.keeps_both; stays = g.met.W.Outside.stays }) c.args.world.now c.args.machine.now c.args.rows.now c.args.frame.now (Err c.in-Err.stop) c.resume_here.new.machine c.resume_here.new.frame c.in-Err.ensures.1 left)
