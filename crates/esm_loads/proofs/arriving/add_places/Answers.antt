-- A record more has places for its requests.
use Rattle.std.proofs.Common.{◌<◌, ◌∙◌, ap, arith, length, subst, sym}
use Rattle.std.specs.Prelude.{slice_get}
use Rattle.esm_realm.specs.Sound.{parts_of, records_of}
use Rattle.esm_loads.specs.LoadsView.{urls_of}
use Rattle.esm_loads.specs.Inner.Targets.{KnowTargets}
use Rattle.esm_loads.specs.Inner.Urls.{UrlsView}
use Rattle.esm_loads.proofs.KnownPlaces.{known_come}
use Rattle.esm_loads.proofs.Places.{map_long}
use Rattle.esm_loads.proofs.arriving.add_places.Goals as goal

pub returns-in-Ok-clause-known : goal.returns-in-Ok-clause-known
returns-in-Ok-clause-known c before h one =
    let S = records_of c.args.realm.now in
    let v = c.args.urls.now in
    let many = map_long parts_of c.args.realm.now.records.items in
    let less : length v.starts < length S = omega (arith, c.if-modules-len.false, c.len.ensures, c.modules-modules.ensures, many, c.args.realm.now.records.ok.0) in
    subst (λ (v : UrlsView). KnowTargets v S) (sym c.in-Ok.ensures)
    (known_come (urls_of v.slots) v.starts v.places before S h c.requests_of.result one less (λ r e. c.requests_of.ensures r (ap (slice_get S) c.modules-modules.ensures ∙ e)))
