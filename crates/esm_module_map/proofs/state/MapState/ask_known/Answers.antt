use Rattle.std.proofs.Common.{arith, refl, ap, ◌∙◌, sym, subst, ◌≡◌, ◌+◌, vec_len, true}
use Rattle.esm_module_map.specs.Replay.{asked_again, may_be_ahead}
use Rattle.esm_module_map.specs.Inner.Outs.{outs_of}
use Rattle.esm_module_map.proofs.Replays.{outs_same}
use Rattle.esm_module_map.proofs.Asks as asks
use Rattle.std.proofs.Common.{false}
use Rattle.esm_module_map.specs.Inner.Firsts.{has_free}
use Rattle.esm_module_map.proofs.Firsts.{asked_firsts}
use Rattle.esm_module_map.proofs.state.MapState.ask_known.Goals as goal
use Rattle.esm_module_map.proofs.Led.{led_ask}
use Rattle.esm_module_map.proofs.Fits.{fit_with}
use Rattle.esm_module_map.specs.declared.event.MapEvent.TheVariants.{Ask}

pub invariant_of-self-2-clause-legal : goal.invariant_of-self-2-clause-legal
invariant_of-self-2-clause-legal g c = let it = c.args.self.now in
    (asks.ask_known g.P.Payload.weight _ it.events.items c.reserve.new.self.items c.push_reserved.new.self.items c.args.caller c.args.place (vec_len c.push_reserved.new.self) c.args.url c.args.url c.args.why c.ask_again.new.numbers.items it.replayed it.legal c.reserve.ensures.items c.push_reserved.ensures.items
    refl c.requires.is_in c.requires.live c.requires.usable c.requires.known (let w = c.requires.within in let a = it.aligned in omega arith) (subst (λ r. may_be_ahead r c.args.why ≡ true) (sym it.replayed) c.requires.ahead) (c.push_reserved.ensures.len ∙ ap (λ k. k + 1) c.reserve.ensures.len) c.ask_again.ensures.items).0

pub invariant_of-self-2-clause-replayed : goal.invariant_of-self-2-clause-replayed
invariant_of-self-2-clause-replayed g c = let it = c.args.self.now in
    (asks.ask_known g.P.Payload.weight _ it.events.items c.reserve.new.self.items c.push_reserved.new.self.items c.args.caller c.args.place (vec_len c.push_reserved.new.self) c.args.url c.args.url c.args.why c.ask_again.new.numbers.items it.replayed it.legal c.reserve.ensures.items c.push_reserved.ensures.items
    refl c.requires.is_in c.requires.live c.requires.usable c.requires.known (let w = c.requires.within in let a = it.aligned in omega arith) (subst (λ r. may_be_ahead r c.args.why ≡ true) (sym it.replayed) c.requires.ahead) (c.push_reserved.ensures.len ∙ ap (λ k. k + 1) c.reserve.ensures.len) c.ask_again.ensures.items).1

pub invariant_of-self-2-clause-outs : goal.invariant_of-self-2-clause-outs
invariant_of-self-2-clause-outs g c = let it = c.args.self.now in it.outs ∙ sym (outs_same it.numbers.items c.args.place (asked_again c.args.why) (asks.again_out c.args.why)) ∙ ap outs_of (sym c.ask_again.ensures.items)

pub invariant_of-self-2-clause-led : goal.invariant_of-self-2-clause-led
invariant_of-self-2-clause-led g c = let it = c.args.self.now in
    led_ask g.P.Payload.leads it.events.items c.reserve.new.self.items c.push_reserved.new.self.items c.args.caller c.args.place c.args.url c.args.url c.args.why c.reserve.ensures.items c.push_reserved.ensures.items it.led refl c.requires.leads

pub invariant_of-self-2-clause-none_free : goal.invariant_of-self-2-clause-none_free
invariant_of-self-2-clause-none_free g c = let it = c.args.self.now in
    subst (λ xs. has_free it.free_from xs ≡ false) (sym c.ask_again.ensures.items) (asked_firsts c.args.why it.numbers.items it.free_from c.args.place it.none_free)

pub invariant_of-self-2-clause-fit : goal.invariant_of-self-2-clause-fit
invariant_of-self-2-clause-fit g c = let it = c.args.self.now in
    fit_with g.P.Payload.weight g.P.Payload.fits it.events.items c.reserve.new.self.items c.push_reserved.new.self.items (Ask c.args.caller c.args.place c.args.url c.args.why) c.reserve.ensures.items c.push_reserved.ensures.items it.fit refl
