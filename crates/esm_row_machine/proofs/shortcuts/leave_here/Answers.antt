use Rattle.std.proofs.Common.{refl}
use Rattle.esm_row_machine.proofs.AtOnce.{calls_op}
use Rattle.esm_row_machine.proofs.shortcuts.leave_here.Goals as goal

pub returns-in-Call : goal.returns-in-Call
returns-in-Call g c = rw c.in-Call.is (c.call_here.ensures.0, calls_op g.W.Outside.state g.W.Outside.modules g.W.Outside.linked g.W.Outside.begins g.W.Outside.ready g.W.Outside.keeps g.W.Outside.owns (record { itself = g.met.W.Outside.keeps_itself; both = g.met.W.Outside.keeps_both; stays = g.met.W.Outside.stays }) c.args.world.now c.args.machine.now c.args.rows.now c.args.frame.now c.in-Call.arguments c.args.left c.call_here.result c.call_here.new.world c.call_here.new.machine c.call_here.new.frame c.call_here.ensures.1)

pub returns-in-Return : goal.returns-in-Return
returns-in-Return g c = rw c.in-Return.is (c.return_here.ensures c.args.left)

pub returns-in-End : goal.returns-in-End
returns-in-End g c = rw c.in-End.is (c.end_here.ensures c.args.left)

pub returns-in_default : goal.returns-in_default
returns-in_default g c = (record { world = refl; stacks = refl; frame = refl }, λ row h ws body at st is fit. tt)
