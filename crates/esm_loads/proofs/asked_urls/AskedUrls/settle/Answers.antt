-- The place of an open ask is listed, and is taken out.
use Rattle.std.proofs.Common.{◌≡◌, Some, ap, subst, sym, ◌∙◌, zero-add, length}
use Rattle.std.specs.Prelude.{slice_get}
use Rattle.std.specs.List.Sorted.{IsNonDecreasing}
use Rattle.std.proofs.lemmas.Option.{slice_get_within}
use Rattle.esm_loads.specs.Inner.Urls.{UrlsView, IsOpenAt}
use Rattle.esm_loads.specs.declared.data.Slot.{Slot}
use Rattle.esm_loads.proofs.OpenPlaces.{places_rise, place_listed, as_many}
use Rattle.esm_loads.proofs.Places.{index_get, some_is}
use Rattle.esm_loads.proofs.UrlIndices.{indexed_set}
use Rattle.esm_loads.proofs.asked_urls.AskedUrls.settle.Goals as goal

pub close-requires-clause-rise : goal.close-requires-clause-rise
close-requires-clause-rise c = subst IsNonDecreasing (sym c.self.invariant.places) (places_rise c.self.inside.slots.items)

pub close-requires-clause-listed : goal.close-requires-clause-listed
close-requires-clause-listed c =
    let at : IsOpenAt c.self.inside.slots.items c.args.place = subst (λ (v : UrlsView). IsOpenAt v.slots c.args.place) (sym c.self.view_is) c.requires.at in
    let found = place_listed 0 c.self.inside.slots.items c.args.place at.slot at.at at.fetching in
    (found.0, ap (λ ks. slice_get ks found.0) c.self.invariant.places ∙ (found.1 ∙ ap (λ k. Some k) (zero-add c.args.place)))

pub close-requires-clause-as_many : goal.close-requires-clause-as_many
close-requires-clause-as_many c = ap length c.self.invariant.urls ∙ (sym (as_many 0 c.self.inside.slots.items) ∙ ap length (sym c.self.invariant.places))

pub invariant_of-self : goal.invariant_of-self
invariant_of-self c =
    let t = c.self.inside in
    let at : IsOpenAt t.slots.items c.args.place = subst (λ (v : UrlsView). IsOpenAt v.slots c.args.place) (sym c.self.view_is) c.requires.at in
    let found = index_get t.slots.items c.args.place c.index_mut.result.now (slice_get_within t.slots.items c.args.place at.slot at.at) c.index_mut.ensures.value in
    let same : c.index_mut.result.now ≡ at.slot = some_is (sym found ∙ at.at) in
    indexed_set t.urls t.slots.items t.asks c.close.new.self t.bytes c.args.place at.slot _ c.self.invariant at.at at.fetching (ap (λ (s : Slot). s.url) (sym same)) c.requires.fetched c.close.ensures
