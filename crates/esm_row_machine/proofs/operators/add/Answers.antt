use Rattle.std.proofs.Common.{[], ◌∷◌}
use Rattle.esm_values.specs.Code.{value_of}
use Rattle.esm_row_machine.specs.Outside.{Asked, sum_plan}
use Rattle.esm_row_machine.specs.Asking.{Heard}
use Rattle.esm_row_machine.proofs.Taken.{popped_two}
use Rattle.esm_row_machine.proofs.operators.add.Goals as goal

pub returns-in-Ok : goal.returns-in-Ok
returns-in-Ok g c =
    popped_two (λ vs u v r. Heard vs (λ told. Asked g.W.Outside.state g.W.Outside.modules g.W.Outside.linked g.W.Outside.begins g.W.Outside.ready g.W.Outside.keeps c.args.world.now (value_of u ∷ value_of v ∷ []) (sum_plan (value_of u) (value_of v)) told c.add-told.new.self) c.args.left r c.take.new.operands.items)
    c.args.operands.now.items c.pop_two.new.operands.items c.in-Ok.first c.in-Ok.second c.in-Ok.ensures c.take.result (record { told = c.add-told.result; says = c.add-told.ensures; took = c.take.ensures })
