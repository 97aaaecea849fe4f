-- Where a URL stands, since none stands twice.
use Rattle.std.proofs.Common.{◌≡◌, List, slice_get, Some, true, ap, sym, subst, ◌∙◌, rules}
use Rattle.esm_loads.specs.LoadsView.{urls_of, place_in}
use Rattle.esm_loads.specs.Inner.Urls.{UrlsView}
use Rattle.esm_loads.specs.declared.data.Slot.{Slot}
use Rattle.esm_loads.proofs.PlacesOfUrls.{place_at}
use Rattle.esm_loads.proofs.asked_urls.AskedUrls.find_near.Goals as goal

pub returns-then-is_at : goal.returns-then-is_at
returns-then-is_at c =
    let t = c.self.inside in
    let here : c.is_at.result ≡ true = search rules in
    let at = subst (λ (l : List Slot). slice_get (urls_of l) c.args.near ≡ Some c.args.url.now) c.as_slice.ensures.value (c.is_at.ensures here) in
    sym (place_at (urls_of t.slots.items) c.args.near c.args.url.now c.self.invariant.distinct at)
    ∙ ap (λ (v : UrlsView). place_in (urls_of v.slots) c.args.url.now) c.self.view_is
