use Rattle.std.proofs.Common.{[], ◌∷◌}
use Rattle.esm_values.specs.Code.{value_of}
use Rattle.esm_row_machine.specs.Outside.{AskedIn, import_plan}
use Rattle.esm_row_machine.specs.Asking.{Heard}
use Rattle.esm_row_machine.proofs.Results.{popped_is}
use Rattle.esm_row_machine.proofs.operators.import.Goals as goal

pub returns-in-Ok : goal.returns-in-Ok
returns-in-Ok g c =
    popped_is c.args.operands.now.items c.pop.new.operands.items c.in-Ok.value (λ vs v r. Heard vs (λ told. AskedIn g.W.Outside.state g.W.Outside.modules g.W.Outside.linked g.W.Outside.begins g.W.Outside.ready g.W.Outside.keeps c.args.frame.at.0 c.args.world.now (value_of v ∷ []) (import_plan (value_of v)) told c.import-told.new.self) c.args.left r c.take.new.operands.items)
    c.in-Ok.ensures c.take.result (record { told = c.import-told.result; says = c.import-told.ensures; took = c.take.ensures })
