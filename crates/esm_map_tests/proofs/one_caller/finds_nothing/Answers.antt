use Rattle.esm_module_map.specs.Views.{view_in}
use Rattle.esm_map_tests.proofs.OrderLemmas.{still_order}
use Rattle.esm_map_tests.proofs.one_caller.finds_nothing.Goals as goal

pub returns-in-Ok-None-clause-order : goal.returns-in-Ok-None-clause-order
returns-in-Ok-None-clause-order g c = still_order g.P.Payload.weight c.orders_stay.ensures c.urls_stay.ensures c.args.caller.now.number c.entry.new.caller.number c.args.order.now.number c.args.order.now.url (view_in c.args.caller.now.pass).seen (view_in c.entry.new.caller.pass).seen
    c.entry.ensures.same.1 c.entry.ensures.says.0 c.entry.ensures.call c.requires.order
