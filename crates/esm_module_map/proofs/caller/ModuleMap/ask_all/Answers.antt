use Rattle.std.proofs.Common.{arith, ap, length}
use Rattle.std.proofs.lemmas.List.{length-map}
use Rattle.esm_module_map.specs.Inner.Wishes.{wished}
use Rattle.esm_module_map.specs.Views.{view_in}
use Rattle.esm_module_map.proofs.Turns.{turn_for, says_for, nothing_called, nothing_said}
use Rattle.esm_module_map.proofs.caller.ModuleMap.ask_all.Goals as goal

pub ask_each-requires-clause-room : goal.ask_each-requires-clause-room
ask_each-requires-clause-room g c = let w = c.in-Ok.wishes in let k = w.ok.0 in let l = length-map w.items wished in let e = ap length c.in-Ok.ensures.urls in omega (arith, k, l, e, c.in-Ok-with_capacity.ensures.capacity, c.in-Ok-with_capacity.ensures.len)

pub returns-clause-call : goal.returns-clause-call
returns-clause-call g c = turn_for g.P.Payload.weight c.args.caller.now.number (view_in c.args.caller.now.pass).seen _ _ c.ask_each.result (view_in c.ask_each.new.caller.pass).seen c.in-Ok.ensures.urls c.ask_each.ensures.call

pub returns-clause-says : goal.returns-clause-says
returns-clause-says g c = says_for g.P.Payload.weight c.args.caller.now.number (view_in c.args.caller.now.pass).seen _ _ c.ask_each.result (view_in c.ask_each.new.caller.pass).seen c.in-Ok.ensures.urls c.ask_each.ensures.says

pub returns-in_default-clause-call : goal.returns-in_default-clause-call
returns-in_default-clause-call g c = let caller = c.args.caller.now in nothing_called g.P.Payload.weight caller.number (view_in caller.pass).seen c.args.urls.now caller.legal

pub returns-in_default-clause-says : goal.returns-in_default-clause-says
returns-in_default-clause-says g c = let caller = c.args.caller.now in nothing_said g.P.Payload.weight caller.number (view_in caller.pass).seen c.args.urls.now

pub returns-in_default-with_capacity-clause-call : goal.returns-in_default-with_capacity-clause-call
returns-in_default-with_capacity-clause-call g c = let caller = c.args.caller.now in nothing_called g.P.Payload.weight caller.number (view_in caller.pass).seen c.args.urls.now caller.legal

pub returns-in_default-with_capacity-clause-says : goal.returns-in_default-with_capacity-clause-says
returns-in_default-with_capacity-clause-says g c = let caller = c.args.caller.now in nothing_said g.P.Payload.weight caller.number (view_in caller.pass).seen c.args.urls.now
