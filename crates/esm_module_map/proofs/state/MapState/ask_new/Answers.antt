use Rattle.std.proofs.Common.{arith, refl, ap, ◌∙◌, sym, subst, ◌≡◌, ◌+◌, ◌++◌, ◌∷◌, [], ℕ, List, bytes_eq, length, vec_len, true, cond}
use Rattle.std.specs.List.{position_or_len}
use Rattle.esm_module_map.specs.Replay.{fresh_number, may_be_ahead}
use Rattle.esm_module_map.specs.Inner.Outs.{is_out, outs_of}
use Rattle.esm_module_map.proofs.Replays.{outs_append}
use Rattle.esm_module_map.proofs.Asks as asks
use Rattle.std.proofs.Common.{false}
use Rattle.esm_module_map.specs.Inner.Firsts.{has_free}
use Rattle.esm_module_map.proofs.Firsts.{appended_firsts}
use Rattle.esm_module_map.proofs.state.MapState.ask_new.Goals as goal
use Rattle.esm_module_map.proofs.Led.{led_ask}
use Rattle.esm_module_map.proofs.Fits.{fit_with}
use Rattle.esm_module_map.specs.declared.event.MapEvent.TheVariants.{Ask}

pub invariant_of-self-2-clause-legal : goal.invariant_of-self-2-clause-legal
invariant_of-self-2-clause-legal g c = let it = c.args.self.now in
    (asks.ask_new g.P.Payload.weight _ it.events.items c.reserve.new.self.items c.push_reserved-2.new.self.items c.args.caller c.len-number.result (vec_len c.push_reserved-2.new.self) c.count_number.new.wanted c.count_number.new.ahead c.args.url c.args.url c.args.why c.push_reserved.new.self.items c.add_key.new.urls it.replayed it.legal c.reserve.ensures.items c.push_reserved-2.ensures.items
    refl c.requires.is_in c.requires.live c.requires.usable (subst (λ (k : List ℕ). position_or_len (bytes_eq k) it.urls ≡ length it.urls) c.requires.key c.requires.fresh) (let a = it.aligned in let b = c.reserve-2.ensures.len in let d = c.len-number.ensures in omega arith) (sym c.has_room.ensures ∙ c.if-not-has_room.false) (subst (λ r. may_be_ahead r c.args.why ≡ true) (sym it.replayed) c.requires.ahead) (c.push_reserved-2.ensures.len ∙ ap (λ k. k + 1) c.reserve.ensures.len) (c.in-Ok.ensures ∙ ap (λ u. it.urls ++ u ∷ []) c.requires.key) (c.push_reserved.ensures.items ∙ ap (λ l. l ++ c.fresh.result ∷ []) c.reserve-2.ensures.items ∙ ap (λ x. it.numbers.items ++ x ∷ []) c.fresh.ensures) c.count_number.ensures.wanted c.count_number.ensures.ahead).0

pub invariant_of-self-2-clause-replayed : goal.invariant_of-self-2-clause-replayed
invariant_of-self-2-clause-replayed g c = let it = c.args.self.now in
    (asks.ask_new g.P.Payload.weight _ it.events.items c.reserve.new.self.items c.push_reserved-2.new.self.items c.args.caller c.len-number.result (vec_len c.push_reserved-2.new.self) c.count_number.new.wanted c.count_number.new.ahead c.args.url c.args.url c.args.why c.push_reserved.new.self.items c.add_key.new.urls it.replayed it.legal c.reserve.ensures.items c.push_reserved-2.ensures.items
    refl c.requires.is_in c.requires.live c.requires.usable (subst (λ (k : List ℕ). position_or_len (bytes_eq k) it.urls ≡ length it.urls) c.requires.key c.requires.fresh) (let a = it.aligned in let b = c.reserve-2.ensures.len in let d = c.len-number.ensures in omega arith) (sym c.has_room.ensures ∙ c.if-not-has_room.false) (subst (λ r. may_be_ahead r c.args.why ≡ true) (sym it.replayed) c.requires.ahead) (c.push_reserved-2.ensures.len ∙ ap (λ k. k + 1) c.reserve.ensures.len) (c.in-Ok.ensures ∙ ap (λ u. it.urls ++ u ∷ []) c.requires.key) (c.push_reserved.ensures.items ∙ ap (λ l. l ++ c.fresh.result ∷ []) c.reserve-2.ensures.items ∙ ap (λ x. it.numbers.items ++ x ∷ []) c.fresh.ensures) c.count_number.ensures.wanted c.count_number.ensures.ahead).1

pub invariant_of-self-2-clause-outs : goal.invariant_of-self-2-clause-outs
invariant_of-self-2-clause-outs g c = let it = c.args.self.now in let e = ap outs_of (c.push_reserved.ensures.items ∙ ap (λ l. l ++ c.fresh.result ∷ []) c.reserve-2.ensures.items ∙ ap (λ x. it.numbers.items ++ x ∷ []) c.fresh.ensures) in
    let f : cond {A = ℕ} (is_out (fresh_number c.args.why)) 1 0 ≡ 0 = ap (λ b. cond b 1 0) (asks.fresh_out c.args.why) in let o = it.outs in omega (arith, e, f, outs_append it.numbers.items (fresh_number c.args.why ∷ []))

pub invariant_of-self-2-clause-led : goal.invariant_of-self-2-clause-led
invariant_of-self-2-clause-led g c = let it = c.args.self.now in
    led_ask g.P.Payload.leads it.events.items c.reserve.new.self.items c.push_reserved-2.new.self.items c.args.caller c.len-number.result c.args.url c.args.url c.args.why c.reserve.ensures.items c.push_reserved-2.ensures.items it.led refl c.requires.leads

pub invariant_of-self-2-clause-none_free : goal.invariant_of-self-2-clause-none_free
invariant_of-self-2-clause-none_free g c = let it = c.args.self.now in let w = it.free_within in let k = it.numbers.ok.0 in
    let e = c.push_reserved.ensures.items ∙ ap (λ l. l ++ c.fresh.result ∷ []) c.reserve-2.ensures.items in
    subst (λ xs. has_free it.free_from xs ≡ false) (sym e) (appended_firsts it.numbers.items (c.fresh.result ∷ []) it.free_from (omega (arith, w, k)) it.none_free)

pub invariant_of-self-2-clause-fit : goal.invariant_of-self-2-clause-fit
invariant_of-self-2-clause-fit g c = let it = c.args.self.now in
    fit_with g.P.Payload.weight g.P.Payload.fits it.events.items c.reserve.new.self.items c.push_reserved-2.new.self.items (Ask c.args.caller c.len-number.result c.args.url c.args.why) c.reserve.ensures.items c.push_reserved-2.ensures.items it.fit refl
