use Rattle.std.proofs.Common.{arith, ap, refl, ◌≡◌, vec_len, not}
use Rattle.esm_module_map.specs.declared.event.MapEvent.TheVariants.{Shut}
use Rattle.esm_module_map.specs.Replay.{replay}
use Rattle.esm_module_map.proofs.Replays.{true_both, lt_true, replay_as, legal_with}
use Rattle.esm_module_map.proofs.state.MapState.shut.Goals as goal
use Rattle.esm_module_map.proofs.Led.{led_with}
use Rattle.esm_module_map.proofs.Fits.{fit_with}

pub invariant_of-self-clause-legal : goal.invariant_of-self-clause-legal
invariant_of-self-clause-legal g c = let it = c.args.self.now in
    legal_with g.P.Payload.weight _ it.events.items c.push_reserved.new.self.items (Shut c.args.caller) it.replayed c.push_reserved.ensures.items it.legal
    (true_both _ _ (lt_true c.args.caller it.callers (let r = c.requires in let e : it.callers ≡ (replay g.P.Payload.weight it.events.items).callers = ap (λ s. s.callers) it.replayed in omega arith)) (ap not c.if-not-self.true))

pub invariant_of-self-clause-replayed : goal.invariant_of-self-clause-replayed
invariant_of-self-clause-replayed g c = let it = c.args.self.now in
    replay_as g.P.Payload.weight _ it.events.items c.push_reserved.new.self.items (Shut c.args.caller) (vec_len c.push_reserved.new.self) it.replayed c.push_reserved.ensures.items c.push_reserved.ensures.len

pub invariant_of-self-clause-led : goal.invariant_of-self-clause-led
invariant_of-self-clause-led g c = let it = c.args.self.now in led_with g.P.Payload.leads it.events.items it.events.items c.push_reserved.new.self.items (Shut c.args.caller) refl c.push_reserved.ensures.items it.led refl

pub invariant_of-self-clause-fit : goal.invariant_of-self-clause-fit
invariant_of-self-clause-fit g c = let it = c.args.self.now in fit_with g.P.Payload.weight g.P.Payload.fits it.events.items it.events.items c.push_reserved.new.self.items (Shut c.args.caller) refl c.push_reserved.ensures.items it.fit refl
