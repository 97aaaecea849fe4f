use Rattle.std.proofs.Common.{◌≡◌, refl, sym, ap, ◌∙◌, arith, length}
use Rattle.std.specs.Vec.Iter.{into_iter_items, into_iter_len}
use Rattle.esm_module_map.proofs.Turns.{midway_begins, midway_on, midway_all}
use Rattle.esm_module_map.proofs.state.MapState.ask_each.Goals as goal

pub loop-wish-init : goal.loop-wish-init
loop-wish-init g c = let given = c.into_iter-wish-iterator.ensures.into_iter_gives in record {
  len = given.1 ∙ (c.args.wishes.ok.0 ∙ ap length (sym given.0));
  midway = midway_begins g.P.Payload.weight c.args.caller c.args.self.now.events.items c.args.wishes.items _ c.args.asked.items c.requires.none given.0 c.requires.wishes;
  callers = refl;
  room = let r = c.requires.room in let k = c.args.wishes.ok.0 in omega (arith, r, k, ap length given.0);
}

pub loop-wish-preserved : goal.loop-wish-preserved
loop-wish-preserved g c = let steps = c.in-Some.ensures.steps in let inv = c.loop-wish.invariant in
    let n : into_iter_len c.loop-wish.wish-iterator ≡ length (into_iter_items c.loop-wish.wish-iterator) = inv.len in
    let e = ap length steps.0 in record {
      len = omega (arith, e);
      midway = midway_on g.P.Payload.weight c.args.caller c.args.self.now.events.items c.args.wishes.items c.loop-wish.asked.items c.push_reserved.new.self.items c.loop-wish.self.events.items c.ask.new.self.events.items _ _ c.in-Some.wish c.in-Ok.answer inv.midway steps.0 c.in-Ok.ensures.reply c.push_reserved.ensures.items;
      callers = c.ask.ensures.callers ∙ inv.callers;
      room = let r = inv.room in let l = c.push_reserved.ensures.len in let k = c.push_reserved.ensures.capacity in omega (arith, e, r, l, k);
    }

pub returns-clause-reply : goal.returns-clause-reply
returns-clause-reply g c = midway_all g.P.Payload.weight c.args.caller c.args.self.now.events.items c.args.wishes.items c.loop-wish.asked.items c.loop-wish.self.events.items (into_iter_items c.loop-wish.wish-iterator) (sym c.loop-wish.invariant.len ∙ c.in-None.ensures.steps.0) c.loop-wish.invariant.midway
