use Rattle.std.proofs.Common.{ap, ◌∙◌, refl, ◌+◌, ◌++◌, ◌∷◌, [], vec_len}
use Rattle.esm_module_map.specs.declared.event.MapEvent.TheVariants.{Enrol}
use Rattle.esm_module_map.proofs.Replays.{true_both, lt_true, eq_true, replay_as, legal_with}
use Rattle.esm_module_map.proofs.state.MapState.enrol.Goals as goal
use Rattle.esm_module_map.proofs.Led.{led_with}
use Rattle.esm_module_map.proofs.Fits.{fit_with}

pub invariant_of-self-2-clause-legal : goal.invariant_of-self-2-clause-legal
invariant_of-self-2-clause-legal g c = let it = c.args.self.now in
    legal_with g.P.Payload.weight _ it.events.items c.push_reserved.new.self.items (Enrol it.callers) it.replayed (c.push_reserved.ensures.items ∙ ap (λ l. l ++ Enrol it.callers ∷ []) c.reserve.ensures.items) it.legal
    (true_both _ _ (eq_true it.callers it.callers refl) (lt_true 0 (vec_len it.events) it.begun))

pub invariant_of-self-2-clause-replayed : goal.invariant_of-self-2-clause-replayed
invariant_of-self-2-clause-replayed g c = let it = c.args.self.now in
    replay_as g.P.Payload.weight _ it.events.items c.push_reserved.new.self.items (Enrol it.callers) (vec_len c.push_reserved.new.self) it.replayed (c.push_reserved.ensures.items ∙ ap (λ l. l ++ Enrol it.callers ∷ []) c.reserve.ensures.items) (c.push_reserved.ensures.len ∙ ap (λ k. k + 1) c.reserve.ensures.len)

pub invariant_of-self-2-clause-led : goal.invariant_of-self-2-clause-led
invariant_of-self-2-clause-led g c = let it = c.args.self.now in led_with g.P.Payload.leads it.events.items c.reserve.new.self.items c.push_reserved.new.self.items (Enrol it.callers) c.reserve.ensures.items c.push_reserved.ensures.items it.led refl

pub invariant_of-self-2-clause-fit : goal.invariant_of-self-2-clause-fit
invariant_of-self-2-clause-fit g c = let it = c.args.self.now in fit_with g.P.Payload.weight g.P.Payload.fits it.events.items c.reserve.new.self.items c.push_reserved.new.self.items (Enrol it.callers) c.reserve.ensures.items c.push_reserved.ensures.items it.fit refl
