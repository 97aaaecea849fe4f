use Rattle.std.proofs.Common.{arith, ap, ◌≡◌, subst, vec_len}
use Rattle.esm_module_map.specs.Replay.{replay}
use Rattle.esm_module_map.specs.Batches.{TakesUpTo}
use Rattle.esm_module_map.proofs.state.MapState.post_and_take_all.Goals as goal

pub take_all-requires-clause-is_in : goal.take_all-requires-clause-is_in
take_all-requires-clause-is_in g c = let it = c.args.self.now in let W = g.P.Payload.weight in
    let e1 : it.callers ≡ (replay W it.events.items).callers = ap (λ r. r.callers) it.replayed in let e2 = c.post_all.ensures.callers in
    let e3 : c.post_all.new.self.callers ≡ (replay W c.post_all.new.self.events.items).callers = ap (λ r. r.callers) c.post_all.new.self.replayed in let h = c.requires.is_in in omega (arith, e1, e2, e3, h)

pub returns-clause-reply : goal.returns-clause-reply
returns-clause-reply g c = subst (λ h. TakesUpTo g.P.Payload.weight c.args.caller h (vec_len c.args.rooms.now) c.take_all.new.orders.items c.take_all.result c.take_all.new.self.events.items) c.post_all.ensures.reply c.take_all.ensures.reply
