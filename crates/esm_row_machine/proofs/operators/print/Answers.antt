use Rattle.std.proofs.Common.{List, take, drop, ◌-◌, ◌∙◌, ap, subst}
use Rattle.esm_values.specs.Code.{values_of}
use Rattle.esm_values.specs.declared.value.Value.{Value}
use Rattle.esm_row_machine.specs.Outside.{Asked, print_plan}
use Rattle.esm_row_machine.specs.Asking.{Heard}
use Rattle.esm_row_machine.proofs.Taken.{popped_many, last_of, cut_at, rest_is}
use Rattle.esm_row_machine.proofs.operators.print.Goals as goal

pub returns-then-many-len : goal.returns-then-many-len
returns-then-many-len g c =
    let from = c.len-len.result - c.args.count in
    popped_many (λ vs us r. Heard vs (λ told. Asked g.W.Outside.state g.W.Outside.modules g.W.Outside.linked g.W.Outside.begins g.W.Outside.ready g.W.Outside.keeps c.args.world.now (values_of us) (print_plan (values_of us)) told c.print-told.new.self) c.args.left r c.take.new.operands.items)
    c.args.operands.now.items (take from c.args.operands.now.items) (drop from c.args.operands.now.items) c.args.count (cut_at from c.args.operands.now.items) (last_of c.len-len.result c.args.count c.args.operands.now.items (c.len-len.ensures ∙ c.args.operands.now.ok.0) c.if-many-len.true) c.take.result
    (record { told = c.print-told.result; says = subst (λ (vs : List Value). Asked g.W.Outside.state g.W.Outside.modules g.W.Outside.linked g.W.Outside.begins g.W.Outside.ready g.W.Outside.keeps c.args.world.now (values_of vs) (print_plan (values_of vs)) c.print-told.result c.print-told.new.self) (rest_is from c.deref.result.now ∙ ap (λ (vs : List Value). drop from vs) c.deref.ensures.value) c.print-told.ensures; took = rw c.truncate.ensures.items at c.take.ensures })
