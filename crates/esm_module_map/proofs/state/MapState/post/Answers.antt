use Rattle.std.proofs.Common.{arith, ap, ◌∙◌, sym, refl, subst, ◌≡◌, ◌+◌, ◌<◌, vec_len, true, min}
use Rattle.esm_module_map.specs.Replay.{change_at, posted_at, is_order}
use Rattle.esm_module_map.specs.Inner.Outs.{outs_of}
use Rattle.esm_base.specs.declared.limits.TheConstants.{MAX_DELIVERED_BYTES}
use Rattle.esm_module_map.proofs.Asks as asks
use Rattle.std.proofs.Common.{false}
use Rattle.esm_module_map.specs.Inner.Firsts.{has_free}
use Rattle.esm_module_map.proofs.Firsts.{posted_firsts}
use Rattle.esm_module_map.proofs.state.MapState.post.Goals as goal
use Rattle.esm_module_map.proofs.Led.{led_with}
use Rattle.esm_module_map.proofs.Fits.{fit_with}
use Rattle.esm_module_map.specs.declared.event.MapEvent.TheVariants.{Post}

pub invariant_of-self-clause-legal : goal.invariant_of-self-clause-legal
invariant_of-self-clause-legal g c = let it = c.args.self.now in
    (asks.post_order g.P.Payload.weight _ it.events.items c.push_reserved-2.new.self.items c.args.caller c.args.number (vec_len c.push_reserved-2.new.self) c.heavier.result c.args.payload c.set_place.new.numbers.items c.push_reserved.new.self.items it.replayed it.legal c.push_reserved-2.ensures.items
    (subst (λ r. c.args.caller < r.callers) (sym it.replayed) c.requires.is_in) (subst (λ r. is_order r c.args.caller c.args.number ≡ true) (sym it.replayed) c.requires.order) c.push_reserved-2.ensures.len (c.set_place.ensures.items ∙ ap (λ k. change_at it.numbers.items c.args.number (posted_at k)) c.len.ensures) c.push_reserved.ensures.items (c.heavier.ensures ∙ ap (λ k. min (it.weight + k) MAX_DELIVERED_BYTES) (c.size-size.ensures ∙ ap g.P.Payload.weight c.deref.ensures))).0

pub invariant_of-self-clause-replayed : goal.invariant_of-self-clause-replayed
invariant_of-self-clause-replayed g c = let it = c.args.self.now in
    (asks.post_order g.P.Payload.weight _ it.events.items c.push_reserved-2.new.self.items c.args.caller c.args.number (vec_len c.push_reserved-2.new.self) c.heavier.result c.args.payload c.set_place.new.numbers.items c.push_reserved.new.self.items it.replayed it.legal c.push_reserved-2.ensures.items
    (subst (λ r. c.args.caller < r.callers) (sym it.replayed) c.requires.is_in) (subst (λ r. is_order r c.args.caller c.args.number ≡ true) (sym it.replayed) c.requires.order) c.push_reserved-2.ensures.len (c.set_place.ensures.items ∙ ap (λ k. change_at it.numbers.items c.args.number (posted_at k)) c.len.ensures) c.push_reserved.ensures.items (c.heavier.ensures ∙ ap (λ k. min (it.weight + k) MAX_DELIVERED_BYTES) (c.size-size.ensures ∙ ap g.P.Payload.weight c.deref.ensures))).1

pub set_place-requires : goal.set_place-requires
set_place-requires g c =
    let it = c.args.self.now in let o = it.outs in let q = it.posts_room in let r = it.room in
    let p = asks.posted_outs it.numbers.items c.args.number c.args.caller (vec_len it.events) (subst (λ s. is_order s c.args.caller c.args.number ≡ true) (sym it.replayed) c.requires.order) in let one = p.1 in p.0

pub push_reserved-requires : goal.push_reserved-requires
push_reserved-requires g c =
    let it = c.args.self.now in let o = it.outs in let q = it.posts_room in let r = it.room in
    let p = asks.posted_outs it.numbers.items c.args.number c.args.caller (vec_len it.events) (subst (λ s. is_order s c.args.caller c.args.number ≡ true) (sym it.replayed) c.requires.order) in let one = p.1 in omega arith

pub overflow_sub-out : goal.overflow_sub-out
overflow_sub-out g c =
    let it = c.args.self.now in let o = it.outs in let q = it.posts_room in let r = it.room in
    let p = asks.posted_outs it.numbers.items c.args.number c.args.caller (vec_len it.events) (subst (λ s. is_order s c.args.caller c.args.number ≡ true) (sym it.replayed) c.requires.order) in let one = p.1 in omega arith

pub push_reserved-requires-2 : goal.push_reserved-requires-2
push_reserved-requires-2 g c =
    let it = c.args.self.now in let o = it.outs in let q = it.posts_room in let r = it.room in
    let p = asks.posted_outs it.numbers.items c.args.number c.args.caller (vec_len it.events) (subst (λ s. is_order s c.args.caller c.args.number ≡ true) (sym it.replayed) c.requires.order) in let one = p.1 in omega arith

pub invariant_of-self-clause-outs : goal.invariant_of-self-clause-outs
invariant_of-self-clause-outs g c =
    let it = c.args.self.now in let o = it.outs in let q = it.posts_room in let r = it.room in
    let p = asks.posted_outs it.numbers.items c.args.number c.args.caller (vec_len it.events) (subst (λ s. is_order s c.args.caller c.args.number ≡ true) (sym it.replayed) c.requires.order) in let one = p.1 in let e = ap outs_of (c.set_place.ensures.items ∙ ap (λ k. change_at it.numbers.items c.args.number (posted_at k)) c.len.ensures) in omega (arith, e, one, o)

pub invariant_of-self-clause-room : goal.invariant_of-self-clause-room
invariant_of-self-clause-room g c =
    let it = c.args.self.now in let o = it.outs in let q = it.posts_room in let r = it.room in
    let p = asks.posted_outs it.numbers.items c.args.number c.args.caller (vec_len it.events) (subst (λ s. is_order s c.args.caller c.args.number ≡ true) (sym it.replayed) c.requires.order) in let one = p.1 in let a = c.push_reserved-2.ensures.len in let b = c.push_reserved-2.ensures.capacity in omega arith

pub invariant_of-self-clause-led : goal.invariant_of-self-clause-led
invariant_of-self-clause-led g c = let it = c.args.self.now in led_with g.P.Payload.leads it.events.items it.events.items c.push_reserved-2.new.self.items (Post c.args.caller c.args.number c.args.payload) refl c.push_reserved-2.ensures.items it.led refl

pub invariant_of-self-clause-none_free : goal.invariant_of-self-clause-none_free
invariant_of-self-clause-none_free g c = let it = c.args.self.now in
    subst (λ xs. has_free it.free_from xs ≡ false) (sym c.set_place.ensures.items) (posted_firsts c.len.result it.numbers.items it.free_from c.args.number it.none_free)

pub invariant_of-self-clause-fit : goal.invariant_of-self-clause-fit
invariant_of-self-clause-fit g c = let it = c.args.self.now in fit_with g.P.Payload.weight g.P.Payload.fits it.events.items it.events.items c.push_reserved-2.new.self.items (Post c.args.caller c.args.number c.args.payload) refl c.push_reserved-2.ensures.items it.fit c.requires.fits
