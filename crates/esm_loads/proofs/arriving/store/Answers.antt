-- The outcome stands in the tables.
use Rattle.std.proofs.Common.{ap, sym, subst, ◌∙◌}
use Rattle.esm_realm.specs.Sound.{records_of}
use Rattle.esm_ast.specs.Outcome.{outcome_view}
use Rattle.esm_loads.specs.UrlTable.{found}
use Rattle.esm_loads.specs.LoadsView.{every_form}
use Rattle.esm_loads.specs.LoadsAsLoading.{loading_of}
use Rattle.esm_loads.specs.Fits.{FitRecords}
use Rattle.esm_loads.specs.Hosted.{host_of}
use Rattle.esm_loads.specs.Loaded.{HaveLoaded}
use Rattle.esm_loads.specs.declared.loads.Loads.{Loads}
use Rattle.esm_loads.specs.Inner.Urls.{IsOpenAt, UrlsView}
use Rattle.esm_loads.proofs.Arrived as arrived
use Rattle.esm_loads.proofs.LoadedFacts.{have_with}
use Rattle.esm_loads.proofs.arriving.store.Goals as goal

pub open_place-place-requires-clause-distinct : goal.open_place-place-requires-clause-distinct
open_place-place-requires-clause-distinct c = c.requires.fits.joined.distinct

pub fill-requires-clause-room : goal.fill-requires-clause-room
fill-requires-clause-room c = arrived.record_room c.args.loads.now (records_of c.args.realm.now) c.open_place-place.result c.args.url.now c.requires.fits c.open_place-place.ensures c.requires.sound

pub fill-requires-clause-new : goal.fill-requires-clause-new
fill-requires-clause-new c = arrived.record_new c.args.loads.now (records_of c.args.realm.now) c.open_place-place.result c.args.url.now c.requires.fits c.open_place-place.ensures

pub fill-requires-clause-usable : goal.fill-requires-clause-usable
fill-requires-clause-usable c = arrived.url_usable c.args.loads.now (records_of c.args.realm.now) c.open_place-place.result c.args.url.now c.requires.fits c.open_place-place.ensures

pub settle-requires-clause-open : goal.settle-requires-clause-open
settle-requires-clause-open c =
    let at = c.open_place-place.ensures in
    let is : IsOpenAt c.args.loads.now.urls.slots c.open_place-place.result = record { slot = at.slot; at = at.at; fetching = at.fetching } in
    subst (λ (v : UrlsView). IsOpenAt v.slots c.open_place-place.result) (sym c.in_ok-add_places.ensures.rest) is

pub settle-requires-clause-fetched : goal.settle-requires-clause-fetched
settle-requires-clause-fetched c =
    arrived.filled_closed c.args.map.now c.args.url.now (outcome_view c.args.outcome.now) _ _ c.args.loads.now.urls.slots c.requires.fits.matching.have c.requires.fits.matching.as_many _ c.in_ok-state.ensures.filled

pub returns-clause-stored : goal.returns-clause-stored
returns-clause-stored c named ps =
    let at = c.open_place-place.ensures in
    let t : Loads = record c.args.loads.now { trees = c.fill.new.trees } in
    let is = arrived.settled_is t c.add_places.new.urls c.settle.new.loads c.open_place-place.result at.slot c.in_ok-state.state c.in_ok-add_places.ensures.rest at.at c.settle.ensures in
    ap (λ l. host_of named ps c.fill.new.errors (loading_of c.args.map.now l (records_of c.fill.new.realm))) is
    ∙ arrived.stored_is c.args.map.now c.args.loads.now (records_of c.args.realm.now) (records_of c.fill.new.realm) c.open_place-place.result c.args.url.now (outcome_view c.args.outcome.now) c.in_ok-state.state c.args.errors.now c.fill.new.errors c.fill.new.trees c.add_places.new.urls.starts c.add_places.new.urls.places
    c.requires.fits at c.requires.answered c.in_ok-state.ensures.filled named ps

pub returns-clause-fits : goal.returns-clause-fits
returns-clause-fits c =
    let at = c.open_place-place.ensures in
    let R = records_of c.args.realm.now in
    let t : Loads = record c.args.loads.now { trees = c.fill.new.trees } in
    let is = arrived.settled_is t c.add_places.new.urls c.settle.new.loads c.open_place-place.result at.slot c.in_ok-state.state c.in_ok-add_places.ensures.rest at.at c.settle.ensures in
    let one = arrived.filled_one c.args.map.now c.args.url.now (outcome_view c.args.outcome.now) _ _ _ c.in_ok-state.ensures.filled in
    let known = arrived.known_stays t.urls c.add_places.new.urls (records_of c.fill.new.realm) c.in_ok-add_places.ensures.rest (c.in_ok-add_places.ensures.known R c.requires.fits.known one) in
    subst (λ l. FitRecords l (records_of c.fill.new.realm)) (sym is)
    (arrived.stored_fits c.args.map.now c.args.loads.now (records_of c.args.realm.now) (records_of c.fill.new.realm) c.open_place-place.result c.args.url.now (outcome_view c.args.outcome.now) c.in_ok-state.state c.args.errors.now c.fill.new.errors c.fill.new.trees c.add_places.new.urls.starts c.add_places.new.urls.places
    c.requires.fits at c.requires.answered c.in_ok-state.ensures.filled (c.in_ok-state.ensures.spelled c.requires.fits.matching.spelled) known)

pub returns-clause-records : goal.returns-clause-records
returns-clause-records c =
    arrived.filled_records c.args.map.now c.args.url.now (outcome_view c.args.outcome.now) _ _ c.args.loads.now.urls.slots c.requires.fits.matching.have c.requires.fits.matching.as_many _ c.in_ok-state.ensures.filled

pub returns-clause-loaded : goal.returns-clause-loaded
returns-clause-loaded c before =
    let is = arrived.filled_records c.args.map.now c.args.url.now (outcome_view c.args.outcome.now) _ _ c.args.loads.now.urls.slots c.requires.fits.matching.have c.requires.fits.matching.as_many _ c.in_ok-state.ensures.filled in
    subst HaveLoaded (sym is) (have_with (records_of c.args.realm.now) c.args.url.now (found c.args.map.now every_form c.args.url.now (outcome_view c.args.outcome.now)) before)
