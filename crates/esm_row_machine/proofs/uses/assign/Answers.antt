use Rattle.esm_values.specs.Code.{value_of}
use Rattle.esm_row_machine.specs.Outside.{Writes}
use Rattle.esm_row_machine.specs.Asking.{HeardWrite}
use Rattle.esm_row_machine.proofs.Results.{popped_is}
use Rattle.esm_row_machine.proofs.uses.assign.Goals as goal

pub returns-in-Ok : goal.returns-in-Ok
returns-in-Ok g c =
    popped_is c.args.operands.now.items c.pop.new.operands.items c.in-Ok.value (λ vs v r. HeardWrite vs (λ told. Writes g.W.Outside.state g.W.Outside.modules g.W.Outside.linked g.W.Outside.begins g.W.Outside.ready g.W.Outside.keeps c.args.world.now c.args.frame.at.0 c.args.name.now (value_of v) told c.write-told.new.self) c.args.left r c.pop.new.operands.items)
    c.in-Ok.ensures c.wrote.result (record { told = c.write-told.result; says = rw c.as_str.ensures at c.write-told.ensures; wrote = c.wrote.ensures c.pop.new.operands.items })
