use Rattle.std.proofs.Common.{◌+◌}
use Rattle.esm_row_machine.proofs.Results.{read}
use Rattle.esm_row_machine.proofs.reading.read_local.Goals as goal

pub returns-in-Ok : goal.returns-in-Ok
returns-in-Ok g c = read g.W.Outside.state g.W.Outside.modules g.W.Outside.linked g.W.Outside.begins g.W.Outside.ready g.W.Outside.keeps c.args.world.now c.args.operands.now.items c.args.names.now (c.args.frame.names + c.args.place) c.args.left c.args.name c.put_found.new.world c.put_found.new.operands.items c.in-Ok.found c.in-Ok.ensures c.put_found.result c.put_found.ensures
