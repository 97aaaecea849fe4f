use Rattle.std.proofs.Common.{refl}
use Rattle.std.specs.Prelude.{Ok, Err, Some}
use Rattle.esm_row_machine.proofs.AtOnce.{returns_op}
use Rattle.esm_row_machine.proofs.shortcuts.return_here.Goals as goal

pub returns-then-is_empty : goal.returns-then-is_empty
returns-then-is_empty g c = λ left. (record { world = refl; stacks = refl; frame = refl }, λ row h ws body at st is fit. tt)

pub returns-in-Ok-resume_here : goal.returns-in-Ok-resume_here
returns-in-Ok-resume_here g c = λ left. (c.in-Ok-resume_here.ensures.0, returns_op g.W.Outside.state g.W.Outside.modules g.W.Outside.linked g.W.Outside.begins g.W.Outside.ready g.W.Outside.keeps g.W.Outside.owns (record { itself = g.met.W.Outside.keeps_itself; both = g.met.W.Outside.keeps_both; stays = g.met.W.Outside.stays }) c.args.world.now c.args.machine.now (record c.args.machine.now { operands = c.pop.new.operands }) c.args.rows.now c.args.frame.now c.in-Ok.value (refl, refl, refl) c.in-Ok.ensures (Ok (Some c.in-Ok-resume_here.row)) c.resume_here.new.machine c.resume_here.new.frame c.in-Ok-resume_here.ensures.1 left)

pub returns-in-Err-resume_here : goal.returns-in-Err-resume_here
returns-in-Err-resume_here g c = λ left. (tt, returns_op g.W.Outside.state g.W.Outside.modules g.W.Outside.linked g.W.Outside.begins g.W.Outside.ready g.W.Outside.keeps g.W.Outside.owns (record { itself = g.met.W.Outside.keeps_itself; both = g.met.W.Outside.keeps_both; stays = g.met.W.Outside.stays }) c.args.world.now c.args.machine.now (record c.args.machine.now { operands = c.pop.new.operands }) c.args.rows.now c.args.frame.now c.in-Ok.value (refl, refl, refl) c.in-Ok.ensures (Err c.in-Err-resume_here.stop) c.resume_here.new.machine c.resume_here.new.frame c.in-Err-resume_here.ensures.1 left)

pub returns-in-Err : goal.returns-in-Err
returns-in-Err g c = λ left. (tt, λ row h ws body at st is fit. tt)
