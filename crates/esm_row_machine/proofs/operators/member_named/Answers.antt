use Rattle.std.proofs.Common.{[], ◌∷◌}
use Rattle.esm_values.specs.Code.{value_of}
use Rattle.esm_row_machine.specs.Outside.{Asked, member_plan}
use Rattle.esm_row_machine.specs.Asking.{Heard}
use Rattle.esm_row_machine.proofs.Results.{popped_is}
use Rattle.esm_row_machine.proofs.operators.member_named.Goals as goal

pub returns-in-Ok : goal.returns-in-Ok
returns-in-Ok g c =
    popped_is c.args.operands.now.items c.pop.new.operands.items c.in-Ok.value (λ vs v r. Heard vs (λ told. Asked g.W.Outside.state g.W.Outside.modules g.W.Outside.linked g.W.Outside.begins g.W.Outside.ready g.W.Outside.keeps c.args.world.now (value_of v ∷ []) (member_plan (value_of v) c.args.name.now) told c.member-told.new.self) c.args.left r c.take.new.operands.items)
    c.in-Ok.ensures c.take.result (record { told = c.member-told.result; says = rw c.as_str.ensures at c.member-told.ensures; took = c.take.ensures })
