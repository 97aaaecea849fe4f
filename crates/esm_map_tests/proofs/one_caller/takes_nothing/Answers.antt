use Rattle.std.proofs.Common.{ap, ◌∙◌, subst, Ok, Some}
use Rattle.esm_module_map.specs.Views.{view_in}
use Rattle.esm_module_map.specs.Replies.{Called, TakeReply}
use Rattle.esm_module_map.specs.Saying.{TakeSays}
use Rattle.esm_map_tests.proofs.OrderLemmas.{still_order}
use Rattle.esm_map_tests.proofs.one_caller.takes_nothing.Goals as goal

pub returns-in-Ok-NotYet-clause-order : goal.returns-in-Ok-NotYet-clause-order
returns-in-Ok-NotYet-clause-order g c =
    let weight = g.P.Payload.weight in let k = c.args.caller.now.number in
    let seen = (view_in c.args.caller.now.pass).seen in let now = (view_in c.take.new.caller.pass).seen in
    let is = c.in-Ok-NotYet.is ∙ ap Ok c.in-Ok-NotYet.field-0-is in
    let q = subst (λ r. Called weight seen (Some k) (λ found. TakeReply weight found k r now)) is c.take.ensures.call in
    let says = subst (λ r. TakeSays weight k seen r now) is c.take.ensures.says in
    still_order weight c.orders_stay.ensures c.urls_stay.ensures k c.take.new.caller.number c.args.order.now.number c.args.order.now.url seen now c.take.ensures.same.1 says.0 (q.0, q.1, q.2.0) c.requires.order
