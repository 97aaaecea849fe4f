-- By the place of the URL.
use Rattle.std.proofs.Common.{◌≡◌, ap, sym, ◌∙◌, arith, rules, true, false}
use Rattle.esm_loads.specs.LoadsView.{urls_of}
use Rattle.esm_loads.proofs.Places.{get_within, some_is, closed_by}
use Rattle.esm_loads.proofs.PlacesOfUrls.{place_some}
use Rattle.esm_loads.proofs.UrlIndices.{urls_many}
use Rattle.esm_loads.proofs.ImportFacts.{open_by}
use Rattle.std.specs.Prelude.{slice_get}
use Rattle.esm_loads.proofs.importing.fetched_place.Goals as goal

pub is_fetched-requires : goal.is_fetched-requires
is_fetched-requires c =
    let ss = c.args.loads.now.urls.slots in
    let w = (place_some (urls_of ss) c.args.url.now c.in-Some.place (sym c.find.ensures ∙ c.in-Some.is)).within in
    omega (arith, w, urls_many ss)

pub returns-then-is_fetched-clause-some : goal.returns-then-is_fetched-clause-some
returns-then-is_fetched-clause-some c =
    let ss = c.args.loads.now.urls.slots in
    let w = (place_some (urls_of ss) c.args.url.now c.in-Some.place (sym c.find.ensures ∙ c.in-Some.is)).within in
    let s = get_within ss c.in-Some.place (omega (arith, w, urls_many ss)) in
    let on : c.is_fetched.result ≡ true = search rules in
    record { slot = s.0; at = s.1; fetched = closed_by _ (sym on ∙ c.is_fetched.ensures s.0 s.1); place = sym c.find.ensures ∙ c.in-Some.is }

pub returns-else-is_fetched-clause-none : goal.returns-else-is_fetched-clause-none
returns-else-is_fetched-clause-none c none k s e f =
    let off : c.is_fetched.result ≡ false = search rules in
    let same = some_is (sym e ∙ (sym c.find.ensures ∙ c.in-Some.is)) in
    open_by _ (sym off ∙ c.is_fetched.ensures s (ap (slice_get c.args.loads.now.urls.slots) (sym same) ∙ f))

pub returns-in-None-clause-none : goal.returns-in-None-clause-none
returns-in-None-clause-none c none k s e f = let n = sym e ∙ (sym c.find.ensures ∙ c.in-None.is) in cc
