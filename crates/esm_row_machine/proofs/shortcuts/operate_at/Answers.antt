use Rattle.esm_row_machine.proofs.AtOnce.{onward_turns, onward_leads}
use Rattle.esm_row_machine.proofs.shortcuts.operate_at.Goals as goal

pub returns-in-Ok : goal.returns-in-Ok
returns-in-Ok g c = record {
  turns = onward_turns g.W.Outside.state g.W.Outside.modules g.W.Outside.linked g.W.Outside.begins g.W.Outside.ready g.W.Outside.keeps g.W.Outside.owns (record { itself = g.met.W.Outside.keeps_itself; both = g.met.W.Outside.keeps_both; stays = g.met.W.Outside.stays }) c.args.world.now c.args.machine.now c.args.frame c.args.left c.args.row.now c.in-Ok.turn c.operate.new.world c.operate.new.machine (c.in-Ok.ensures c.op_at.ensures) c.onward.result c.onward.ensures;
  leads = onward_leads c.args.left c.in-Ok.turn c.onward.result c.onward.ensures;
}

pub returns-in-Err : goal.returns-in-Err
returns-in-Err g c = record { turns = c.in-Err.ensures c.op_at.ensures; leads = tt }
