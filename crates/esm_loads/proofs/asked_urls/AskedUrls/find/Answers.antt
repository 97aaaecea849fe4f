use Rattle.std.proofs.Common.{ap, ◌∙◌}
use Rattle.esm_loads.specs.LoadsView.{urls_of, place_in}
use Rattle.esm_loads.specs.Inner.Urls.{UrlsView}
use Rattle.esm_loads.proofs.UrlIndices.{place_is}
use Rattle.esm_loads.proofs.asked_urls.AskedUrls.find.Goals as goal

pub returns : goal.returns
returns c =
    let t = c.self.inside in
    c.find.ensures ∙ (place_is t.urls (urls_of t.slots.items) c.args.url.now c.self.invariant.listed ∙ ap (λ (v : UrlsView). place_in (urls_of v.slots) c.args.url.now) c.self.view_is)
