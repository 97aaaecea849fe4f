-- What is kept is the place.
use Rattle.std.proofs.Common.{subst, sym}
use Rattle.esm_loads.specs.Inner.Targets.{IsKept}
use Rattle.esm_loads.specs.Inner.Urls.{UrlsView}
use Rattle.esm_loads.proofs.asked_urls.AskedUrls.find_target.Goals as goal

pub returns-in-Some : goal.returns-in-Some
returns-in-Some c =
    sym (c.requires c.in-Some.place (subst (λ (v : UrlsView). IsKept v.starts v.places c.args.id.0 c.args.request c.in-Some.place) c.self.view_is c.in-Some.ensures))
