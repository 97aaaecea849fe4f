use Rattle.esm_row_machine.proofs.Refusing.{refuses, refuse_stops}
use Rattle.esm_row_machine.proofs.calls.refuse.Goals as goal

pub returns-in-Ok : goal.returns-in-Ok
returns-in-Ok g c = refuses g.W.Outside.state g.W.Outside.modules g.W.Outside.linked g.W.Outside.begins g.W.Outside.ready g.W.Outside.keeps g.W.Outside.owns c.args.world.now c.args.machine.now c.args.frame c.args.kind c.args.message.now c.in-Ok.error c.fault.new.self c.fly.new.machine c.fly.result c.in-Ok.ensures c.fly.ensures

pub returns-in-Err : goal.returns-in-Err
returns-in-Err g c = refuse_stops g.W.Outside.state g.W.Outside.modules g.W.Outside.linked g.W.Outside.begins g.W.Outside.ready g.W.Outside.keeps g.W.Outside.owns c.args.world.now c.args.machine.now c.args.frame c.args.kind c.args.message.now c.in-Err.stop c.fault.new.self c.args.machine.now c.in-Err.ensures
