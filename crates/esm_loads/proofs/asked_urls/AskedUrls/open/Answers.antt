-- Each list gets its part of the new URL.
use Rattle.std.proofs.Common.{◌≡◌, ap, ◌∙◌, None, arith}
use Rattle.esm_loads.specs.LoadsView.{urls_of, place_in}
use Rattle.esm_loads.specs.Inner.Urls.{UrlsView}
use Rattle.esm_base.specs.Urls.{has}
use Rattle.esm_loads.proofs.PlacesOfUrls.{place_none}
use Rattle.esm_loads.proofs.UrlIndices.{indexed_more}
use Rattle.esm_loads.proofs.asked_urls.AskedUrls.open.Goals as goal

pub add-requires : goal.add-requires
add-requires c =
    let t = c.self.inside in
    let u = c.args.url.now in
    let fresh : place_in (urls_of t.slots.items) u ≡ None = ap (λ (v : UrlsView). place_in (urls_of v.slots) u) c.self.view_is ∙ c.requires in
    ap (λ us. has us u) c.self.invariant.listed ∙ place_none (urls_of t.slots.items) u fresh

pub invariant_of-self : goal.invariant_of-self
invariant_of-self c =
    let t = c.self.inside in
    let u = c.args.url.now in
    let fresh : place_in (urls_of t.slots.items) u ≡ None = ap (λ (v : UrlsView). place_in (urls_of v.slots) u) c.self.view_is ∙ c.requires in
    rw c.in-Ok.ensures.slots (indexed_more t.urls c.add.new.urls t.slots.items t.asks c.add.new.asks t.bytes u c.self.invariant fresh (omega arith) c.in-Ok.ensures.urls c.in-Ok.ensures.asks c.in-Ok.ensures.places)
