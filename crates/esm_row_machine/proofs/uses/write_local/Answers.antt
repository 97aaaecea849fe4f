use Rattle.std.proofs.Common.{◌+◌, true, false, refl}
use Rattle.esm_row_machine.proofs.Results.{written}
use Rattle.esm_row_machine.proofs.uses.write_local.Goals as goal

pub returns-then-set : goal.returns-then-set
returns-then-set g c = let there = rw c.as_slice.ensures.value at c.in-Ok.ensures.1 in written g.W.Outside.state g.W.Outside.modules g.W.Outside.linked g.W.Outside.begins g.W.Outside.ready g.W.Outside.keeps c.args.constant c.args.world.now c.args.operands.now.items c.args.names.now.items (c.args.frame.names + c.args.place) c.args.left c.args.name c.write_set.new.world c.write_set.new.operands.items c.write_set.new.names.items c.in-Ok.set c.in-Ok.ensures.0 there c.in-Ok.ensures.2 true c.if-set.true c.write_set.result c.write_set.ensures

pub returns-else-set : goal.returns-else-set
returns-else-set g c = let there = rw c.as_slice.ensures.value at c.in-Ok.ensures.1 in written g.W.Outside.state g.W.Outside.modules g.W.Outside.linked g.W.Outside.begins g.W.Outside.ready g.W.Outside.keeps c.args.constant c.args.world.now c.args.operands.now.items c.args.names.now.items (c.args.frame.names + c.args.place) c.args.left c.args.name c.throw_named.new.world c.args.operands.now.items c.args.names.now.items c.in-Ok.set c.in-Ok.ensures.0 there c.in-Ok.ensures.2 false c.if-set.false c.throw_named.result (refl, refl, c.throw_named.ensures)
