use Rattle.std.proofs.Common.{◌≡◌, ◌∙◌, refl, sym, ap, subst, arith, length, []}
use Rattle.std.specs.Prelude.{All, string_bytes}
use Rattle.std.specs.Vec.Iter.{into_iter_items}
use Rattle.std.proofs.lemmas.List.Elements.{All-rest, All-push}
use Rattle.esm_base.specs.Urls.{IsUsable}
use Rattle.esm_module_map.specs.declared.reply.Order.{Order}
use Rattle.esm_fetch.specs.Inner.Asking.{AreInHand}
use Rattle.esm_fetch.proofs.InHand.{hand_next}
use Rattle.esm_fetch.proofs.working.fetch_all.Goals as goal

pub loop-order-init : goal.loop-order-init
loop-order-init g c = let given = c.into_iter-order-iterator.ensures.into_iter_gives in let k = c.args.orders.ok.0 in let e = ap length given.0 in let r = c.requires.room in let s = c.requires.rooms in record {
  len = given.1 ∙ (k ∙ ap length (sym given.0));
  usable = subst (All (λ (o : Order). IsUsable o.url)) (sym given.0) c.requires.usable;
  empty = c.requires.empty;
  holds = refl;
  room = omega (arith, r, k, e);
  space = omega (arith, s, k, e);
  many = omega (arith, k, e);
  hand = λ n h at first. subst (λ l. AreInHand (g.S.Source.holds c.args.source.now) (g.S.Source.asked c.args.source.now) n h c.args.filled.now.items l) (sym given.0) first;
}

pub loop-order-preserved : goal.loop-order-preserved
loop-order-preserved g c =
    let inv = c.loop-order.invariant in let steps = c.in-Some.ensures.steps in let e = ap length steps.0 in let n = inv.len in let one = steps.1 in
    let room = inv.room in let space = inv.space in let many = inv.many in
    let a = c.push_reserved.ensures.len in let b = c.push_reserved.ensures.capacity in let d = c.push_reserved-in-loop-order.ensures.len in let f = c.push_reserved-in-loop-order.ensures.capacity in record {
      len = omega (arith, e, n, one);
      usable = All-rest (λ (o : Order). IsUsable o.url) c.in-Some.order _ (into_iter_items c.loop-order.order-iterator) steps.0 inv.usable;
      empty = subst (All (λ r. string_bytes r ≡ [])) (sym c.push_reserved-in-loop-order.ensures.items) (All-push (λ r. string_bytes r ≡ []) c.loop-order.rooms.items c.into_room.result inv.empty c.into_room.ensures);
      holds = c.fetch_order.ensures.holds ∙ inv.holds;
      room = omega (arith, e, room, a, b);
      space = omega (arith, e, space, d, f);
      many = omega (arith, e, many, d);
      hand = λ k h at first. hand_next (g.S.Source.holds c.args.source.now) (g.S.Source.holds c.loop-order.source) (g.S.Source.asked c.loop-order.source) (g.S.Source.asked c.fetch_order.new.source) c.args.guide.now k h c.loop-order.filled.items c.push_reserved.new.self.items
          (into_iter_items c.loop-order.order-iterator) _ c.in-Some.order (record { number = c.number-number.result; payload = c.in-Ok.payload }) inv.holds steps.0 c.push_reserved.ensures.items at c.number-number.ensures c.in-Ok.ensures.asked c.in-Ok.ensures.answer c.in-Ok.ensures.fits (inv.hand k h at first);
    }
