use Rattle.std.proofs.Common.{refl, ap, ◌∙◌, arith, length}
use Rattle.esm_module_map.proofs.Posted.{hears_nothing, hears_next, heard_less}
use Rattle.esm_module_map.proofs.state.MapState.hear.Goals as goal

pub loop-found-init : goal.loop-found-init
loop-found-init g c = record { heard = hears_nothing g.P.Payload.weight c.args.self.now.events.items c.args.known.now c.args.heard.now.items; room = refl }

pub loop-found-preserved : goal.loop-found-preserved
loop-found-preserved g c = let me = c.args.self.now in record {
  heard = hears_next g.P.Payload.weight me.events.items _ _ c.loop-found.known c.loop-found.heard.items _ _ c.in-Ok.found c.in-Some.post c.loop-found.invariant.heard c.in-Some.is c.in-Ok.ensures.exact c.in-Ok.ensures.posted refl c.push_reserved.ensures.items;
  room = c.push_reserved.ensures.capacity ∙ c.loop-found.invariant.room;
}

pub overflow_add-known : goal.overflow_add-known
overflow_add-known g c = let me = c.args.self.now in
    let less = heard_less g.P.Payload.weight me.events.items c.loop-found.known c.in-Ok.found c.in-Some.post c.in-Some.is c.in-Ok.ensures.exact in
    let same = ap (λ r. length r.posts) me.replayed in let a = me.posts.ok.0 in let b = me.posts.ok.1 in let d = me.posts.small in omega (arith, less, same, a, b, d)
