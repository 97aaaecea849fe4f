-- What is found tells, since no URL stands twice in the table.
use Rattle.std.proofs.Common.{◌≡◌, ◌<◌, List, length, slice_get, Some, ap, sym, subst, ◌∙◌}
use Rattle.esm_base.specs.Urls.{has}
use Rattle.esm_loads.specs.LoadsView.{urls_of, place_in, is_open}
use Rattle.esm_loads.specs.Inner.Urls.{UrlsView, open_urls}
use Rattle.esm_loads.specs.declared.data.Slot.{Slot}
use Rattle.esm_loads.proofs.OpenUrls.{found_inside, found_open, missing_open}
use Rattle.esm_loads.proofs.asked_urls.AskedUrls.is_open.Goals as goal

pub is_open_at-requires : goal.is_open_at-requires
is_open_at-requires c =
    let ss = c.self.inside.slots.items in
    let p : place_in (urls_of ss) c.args.url.now ≡ Some c.in-Some.place = subst (λ (v : UrlsView). place_in (urls_of v.slots) c.args.url.now ≡ Some c.in-Some.place) (sym c.self.view_is) (sym c.find_near.ensures ∙ c.in-Some.is) in
    subst (λ (l : List Slot). c.in-Some.place < length l) (sym c.as_slice.ensures.value) (found_inside ss c.args.url.now c.in-Some.place p)

pub returns-in-Some : goal.returns-in-Some
returns-in-Some c =
    let ss = c.self.inside.slots.items in
    let p : place_in (urls_of ss) c.args.url.now ≡ Some c.in-Some.place = subst (λ (v : UrlsView). place_in (urls_of v.slots) c.args.url.now ≡ Some c.in-Some.place) (sym c.self.view_is) (sym c.find_near.ensures ∙ c.in-Some.is) in
    let told = subst (λ (l : List Slot). (s : Slot) → slice_get l c.in-Some.place ≡ Some s → c.is_open_at.result ≡ is_open s.state) c.as_slice.ensures.value c.is_open_at.ensures in
    found_open ss c.args.url.now c.in-Some.place c.is_open_at.result c.self.invariant.distinct p told ∙ ap (λ (v : UrlsView). has (open_urls v.slots) c.args.url.now) c.self.view_is

pub returns-in-None : goal.returns-in-None
returns-in-None c = sym (missing_open c.args.self.now.slots c.args.url.now (sym c.find_near.ensures ∙ c.in-None.is))
