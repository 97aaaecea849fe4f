use Rattle.std.proofs.Common.{◌≡◌, ◌+◌, ◌-◌, refl, ap, ◌∙◌, arith, [], Some, length, string_bytes, vec_len, Ok, Err, false, true}
use Rattle.std.proofs.lemmas.List.Elements.{All-pop}
use Rattle.esm_base.specs.declared.memory.Memory.{Memory}
use Rattle.esm_module_map.specs.Replay.{replay}
use Rattle.esm_module_map.proofs.Batches.{taking_begins, taking_on, taking_ends, taking_done}
use Rattle.esm_module_map.proofs.state.MapState.take_all.Goals as goal

pub share-most-requires : goal.share-most-requires
share-most-requires g c = let it = c.args.self.now in let e : it.callers ≡ (replay g.P.Payload.weight it.events.items).callers = ap (λ r. r.callers) it.replayed in let h = c.requires.is_in in omega (arith, e, h)

pub loop-rooms-init : goal.loop-rooms-init
loop-rooms-init g c = let none = ap length c.requires.none in let k = c.args.orders.now.ok.0 in let r = c.requires.room in let most = c.share-most.result in record {
  leads = taking_begins g.P.Payload.weight c.args.caller c.args.self.now.events.items most (most - vec_len c.args.orders.now) c.args.orders.now.items c.requires.none (omega (arith, none, k));
  callers = refl;
  empty = c.requires.empty;
  each = omega (arith, none, k);
  room = omega (arith, r);
}

pub take-requires-clause-room : goal.take-requires-clause-room
take-requires-clause-room g c = (All-pop (λ r. string_bytes r ≡ []) c.loop-rooms.rooms.items c.pop.new.self.items (Some c.in-Some.room) c.in-Some.ensures.items c.loop-rooms.invariant.empty).1

pub take-requires-clause-is_in : goal.take-requires-clause-is_in
take-requires-clause-is_in g c = let it = c.args.self.now in let now = c.loop-rooms.self in let W = g.P.Payload.weight in
    let e1 : it.callers ≡ (replay W it.events.items).callers = ap (λ r. r.callers) it.replayed in let e2 = c.loop-rooms.invariant.callers in
    let e3 : now.callers ≡ (replay W now.events.items).callers = ap (λ r. r.callers) now.replayed in let h = c.requires.is_in in omega (arith, e1, e2, e3, h)

pub loop-rooms-preserved : goal.loop-rooms-preserved
loop-rooms-preserved g c = let inv = c.loop-rooms.invariant in let most = c.share-most.result in let less = c.loop-rooms-test.true in
    let l = c.push_reserved.ensures.len in let k = c.push_reserved.ensures.capacity in let p = c.in-Some.ensures.cases in let e = inv.each in let r = inv.room in record {
      leads = taking_on g.P.Payload.weight c.args.caller c.args.self.now.events.items most c.loop-rooms.orders.items c.push_reserved.new.self.items c.loop-rooms.self.events.items c.take.new.self.events.items
          (most - vec_len c.loop-rooms.orders) (most - vec_len c.push_reserved.new.self) c.in-Ok.taken c.in-Order.order inv.leads (omega (arith, less, l)) c.in-Order.is c.in-Ok.ensures.reply c.push_reserved.ensures.items;
      callers = c.take.ensures.callers ∙ inv.callers;
      empty = (All-pop (λ r. string_bytes r ≡ []) c.loop-rooms.rooms.items c.pop.new.self.items (Some c.in-Some.room) c.in-Some.ensures.items inv.empty).0;
      each = omega (arith, p, e, l);
      room = omega (arith, p, r, l, k);
    }

pub returns-in_default-take-clause-reply : goal.returns-in_default-take-clause-reply
returns-in_default-take-clause-reply g c =
    let most = c.share-most.result in let m = c.share-most.ensures.most in let len = c.len.ensures in
    let inv = c.loop-rooms.invariant in let less = c.loop-rooms-test.true in let taken = vec_len c.loop-rooms.orders in
    let want : Memory = record {} in
    (most, omega (arith, m, len), (λ some. c.share-most.ensures.least (omega (arith, some, len))), taking_ends g.P.Payload.weight c.args.caller c.args.self.now.events.items most c.loop-rooms.orders.items c.loop-rooms.self.events.items c.take.new.self.events.items (most - taken) (most - (taken + 1)) (Err want) (Err want) inv.leads (omega (arith, less)) refl c.in_default-take.ensures.reply)

pub returns-in-NotYet-clause-reply : goal.returns-in-NotYet-clause-reply
returns-in-NotYet-clause-reply g c =
    let most = c.share-most.result in let m = c.share-most.ensures.most in let len = c.len.ensures in
    let inv = c.loop-rooms.invariant in let less = c.loop-rooms-test.true in let taken = vec_len c.loop-rooms.orders in
    (most, omega (arith, m, len), (λ some. c.share-most.ensures.least (omega (arith, some, len))), taking_ends g.P.Payload.weight c.args.caller c.args.self.now.events.items most c.loop-rooms.orders.items c.loop-rooms.self.events.items c.take.new.self.events.items (most - taken) (most - (taken + 1)) (Ok c.in-Ok.taken) (Ok false) inv.leads (omega (arith, less)) (ap (λ t. Ok t) c.in-NotYet.is) c.in-Ok.ensures.reply)

pub returns-in-Closed-clause-reply : goal.returns-in-Closed-clause-reply
returns-in-Closed-clause-reply g c =
    let most = c.share-most.result in let m = c.share-most.ensures.most in let len = c.len.ensures in
    let inv = c.loop-rooms.invariant in let less = c.loop-rooms-test.true in let taken = vec_len c.loop-rooms.orders in
    (most, omega (arith, m, len), (λ some. c.share-most.ensures.least (omega (arith, some, len))), taking_ends g.P.Payload.weight c.args.caller c.args.self.now.events.items most c.loop-rooms.orders.items c.loop-rooms.self.events.items c.take.new.self.events.items (most - taken) (most - (taken + 1)) (Ok c.in-Ok.taken) (Ok true) inv.leads (omega (arith, less)) (ap (λ t. Ok t) c.in-Closed.is) c.in-Ok.ensures.reply)

pub returns-clause-reply : goal.returns-clause-reply
returns-clause-reply g c =
    let most = c.share-most.result in let m = c.share-most.ensures.most in let len = c.len.ensures in
    let inv = c.loop-rooms.invariant in let over = c.loop-rooms-test.false in let taken = vec_len c.loop-rooms.orders in
    (most, omega (arith, m, len), (λ some. c.share-most.ensures.least (omega (arith, some, len))), taking_done g.P.Payload.weight c.args.caller c.args.self.now.events.items most c.loop-rooms.orders.items c.loop-rooms.self.events.items (most - taken) inv.leads (omega (arith, over)))
