use Rattle.std.proofs.Common.{ap, ◌∙◌, sym, subst, slice_get, Some, ◌≡◌}
use Rattle.esm_module_map.proofs.Asks.{get_within}
use Rattle.esm_module_map.proofs.Replays.{lt_from}
use Rattle.esm_module_map.proofs.Entries.{posted_there, posted_by_it, no_number, no_place, no_event, get_at, get_none}
use Rattle.esm_module_map.proofs.state.MapState.entry.Goals as goal

pub returns-in-Some-get-clause-posted : goal.returns-in-Some-get-clause-posted
returns-in-Some-get-clause-posted g c = posted_there c.args.self.now.events.items c.in-Some-place.place c.args.number c.in-Some-get.event.now c.posted_by.result (let h = c.in-Some-get.ensures.lookup in subst (λ l. slice_get l c.in-Some-place.place ≡ Some c.in-Some-get.event.now) c.deref-2.ensures.value (get_within c.deref-2.result.now c.in-Some-place.place c.in-Some-get.event.now (lt_from c.in-Some-place.place _ (sym h.0)) ∙ ap Some (sym h.1))) c.posted_by.ensures.posted

pub returns-in-Some-get-clause-exact : goal.returns-in-Some-get-clause-exact
returns-in-Some-get-clause-exact g c = let me = c.args.self.now in let h = c.in-Some.ensures.lookup in let k = c.in-Some-get.ensures.lookup in
    posted_by_it g.P.Payload.weight _ me.events.items c.args.number c.in-Some-place.place c.in-Some.standing.now c.in-Some-get.event.now c.posted_by.result me.legal me.replayed
    (get_at c.deref.result.now me.numbers.items c.args.number c.in-Some.standing.now c.deref.ensures.value h.0 h.1) c.in-Some-place.is
    (get_at c.deref-2.result.now me.events.items c.in-Some-place.place c.in-Some-get.event.now c.deref-2.ensures.value k.0 k.1) c.posted_by.ensures.exact

pub returns-in_default-clause-exact : goal.returns-in_default-clause-exact
returns-in_default-clause-exact g c = let me = c.args.self.now in
    no_number g.P.Payload.weight _ me.events.items c.args.number me.replayed (get_none c.deref.result.now me.numbers.items c.args.number c.deref.ensures.value c.in_default.ensures.lookup.0)

pub returns-in_default-place-clause-exact : goal.returns-in_default-place-clause-exact
returns-in_default-place-clause-exact g c = let me = c.args.self.now in let h = c.in-Some.ensures.lookup in
    no_place g.P.Payload.weight _ me.events.items c.args.number c.in-Some.standing.now me.replayed
    (get_at c.deref.result.now me.numbers.items c.args.number c.in-Some.standing.now c.deref.ensures.value h.0 h.1) c.in_default-place.is

pub returns-in-None-clause-exact : goal.returns-in-None-clause-exact
returns-in-None-clause-exact g c = let me = c.args.self.now in let h = c.in-Some.ensures.lookup in
    no_event g.P.Payload.weight _ me.events.items c.deref-2.result.now c.args.number c.in-Some-place.place c.in-Some.standing.now me.legal me.replayed
    (get_at c.deref.result.now me.numbers.items c.args.number c.in-Some.standing.now c.deref.ensures.value h.0 h.1) c.in-Some-place.is c.deref-2.ensures.value c.in-None.ensures.lookup.0
