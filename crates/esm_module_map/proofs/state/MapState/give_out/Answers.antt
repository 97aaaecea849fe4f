use Rattle.std.proofs.Common.{arith, ap, ◌∙◌, refl, ◌+◌, vec_len}
use Rattle.esm_module_map.specs.Replay.{next_order}
use Rattle.esm_module_map.specs.Inner.Outs.{outs_of}
use Rattle.esm_module_map.proofs.Asks as asks
use Rattle.std.proofs.Common.{◌≡◌, sym, subst, false}
use Rattle.esm_module_map.specs.Inner.Firsts.{has_free}
use Rattle.esm_module_map.proofs.state.MapState.give_out.Goals as goal
use Rattle.esm_module_map.proofs.Led.{led_with}
use Rattle.esm_module_map.proofs.Fits.{fit_with}
use Rattle.esm_module_map.specs.declared.event.MapEvent.TheVariants.{Take}

pub invariant_of-self-2-clause-legal : goal.invariant_of-self-2-clause-legal
invariant_of-self-2-clause-legal g c = let it = c.args.self.now in
    (asks.take_next g.P.Payload.weight _ it.events.items c.reserve.new.self.items c.push_reserved.new.self.items c.args.caller c.args.place (vec_len c.push_reserved.new.self) c.set_taker.new.numbers.items c.reserve-2.new.self.items it.replayed it.legal c.reserve.ensures.items c.push_reserved.ensures.items
    c.requires.is_in c.requires.live (ap next_order it.replayed ∙ c.requires.next) (c.push_reserved.ensures.len ∙ ap (λ k. k + 1) c.reserve.ensures.len) c.set_taker.ensures.items c.reserve-2.ensures.items).0

pub invariant_of-self-2-clause-replayed : goal.invariant_of-self-2-clause-replayed
invariant_of-self-2-clause-replayed g c = let it = c.args.self.now in
    (asks.take_next g.P.Payload.weight _ it.events.items c.reserve.new.self.items c.push_reserved.new.self.items c.args.caller c.args.place (vec_len c.push_reserved.new.self) c.set_taker.new.numbers.items c.reserve-2.new.self.items it.replayed it.legal c.reserve.ensures.items c.push_reserved.ensures.items
    c.requires.is_in c.requires.live (ap next_order it.replayed ∙ c.requires.next) (c.push_reserved.ensures.len ∙ ap (λ k. k + 1) c.reserve.ensures.len) c.set_taker.ensures.items c.reserve-2.ensures.items).1

pub set_taker-requires : goal.set_taker-requires
set_taker-requires g c = let it = c.args.self.now in (asks.taken_outs (record { events = vec_len it.events; callers = it.callers; urls = it.urls; numbers = it.numbers.items; posts = it.posts.items; wanted = it.wanted; ahead = it.ahead; weight = it.weight; shut = it.shut }) c.args.place c.args.caller (ap next_order it.replayed ∙ c.requires.next)).0

pub invariant_of-self-2-clause-outs : goal.invariant_of-self-2-clause-outs
invariant_of-self-2-clause-outs g c = let it = c.args.self.now in let t = (asks.taken_outs (record { events = vec_len it.events; callers = it.callers; urls = it.urls; numbers = it.numbers.items; posts = it.posts.items; wanted = it.wanted; ahead = it.ahead; weight = it.weight; shut = it.shut }) c.args.place c.args.caller (ap next_order it.replayed ∙ c.requires.next)).1 in let e = ap outs_of c.set_taker.ensures.items in let o = it.outs in omega (arith, t, e, o)

pub invariant_of-self-2-clause-led : goal.invariant_of-self-2-clause-led
invariant_of-self-2-clause-led g c = let it = c.args.self.now in led_with g.P.Payload.leads it.events.items c.reserve.new.self.items c.push_reserved.new.self.items (Take c.args.caller c.args.place) c.reserve.ensures.items c.push_reserved.ensures.items it.led refl

pub taken_up_to-requires : goal.taken_up_to-requires
taken_up_to-requires g c = let it = c.args.self.now in let t = (asks.taken_outs (record { events = vec_len it.events; callers = it.callers; urls = it.urls; numbers = it.numbers.items; posts = it.posts.items; wanted = it.wanted; ahead = it.ahead; weight = it.weight; shut = it.shut }) c.args.place c.args.caller (ap next_order it.replayed ∙ c.requires.next)).0 in
    let k = it.numbers.ok.0 in let m = it.made in let a = it.few_wanted in let b = it.few_ahead in record { small = omega (arith, t, k, m, a, b) }

pub invariant_of-self-2-clause-none_free : goal.invariant_of-self-2-clause-none_free
invariant_of-self-2-clause-none_free g c = let it = c.args.self.now in
    subst (λ xs. has_free c.taken_up_to.result xs ≡ false) (sym c.set_taker.ensures.items) (c.taken_up_to.ensures.none it.numbers.items c.args.caller it.none_free)

pub invariant_of-self-2-clause-free_within : goal.invariant_of-self-2-clause-free_within
invariant_of-self-2-clause-free_within g c = let it = c.args.self.now in let t = (asks.taken_outs (record { events = vec_len it.events; callers = it.callers; urls = it.urls; numbers = it.numbers.items; posts = it.posts.items; wanted = it.wanted; ahead = it.ahead; weight = it.weight; shut = it.shut }) c.args.place c.args.caller (ap next_order it.replayed ∙ c.requires.next)).0 in
    let k = it.numbers.ok.0 in let w = it.free_within in let r = c.taken_up_to.ensures.within (vec_len it.numbers) (omega (arith, t, k)) w in let l = c.set_taker.ensures.len in omega (arith, r, l)

pub invariant_of-self-2-clause-fit : goal.invariant_of-self-2-clause-fit
invariant_of-self-2-clause-fit g c = let it = c.args.self.now in fit_with g.P.Payload.weight g.P.Payload.fits it.events.items c.reserve.new.self.items c.push_reserved.new.self.items (Take c.args.caller c.args.place) c.reserve.ensures.items c.push_reserved.ensures.items it.fit refl
