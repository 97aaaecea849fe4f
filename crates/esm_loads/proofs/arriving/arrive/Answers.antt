-- The bytes are counted, and the outcome stands in the tables.
use Rattle.std.proofs.Common.{◌≡◌, ◌+◌, ◌≤◌, ◌<◌, true, ap, sym, subst, ◌∙◌}
use Rattle.esm_base.specs.Urls.{has}
use Rattle.esm_realm.specs.Sound.{records_of}
use Rattle.esm_ast.specs.Outcome.{outcome_view}
use Rattle.esm_loads.specs.UrlTable.{found}
use Rattle.esm_loads.specs.Arrival.{put_found}
use Rattle.esm_loads.specs.LoadsView.{every_form}
use Rattle.esm_loads.specs.LoadsAsLoading.{loading_of}
use Rattle.esm_loads.specs.Fits.{FitRecords}
use Rattle.esm_loads.specs.Hosted.{host_of}
use Rattle.esm_loads.specs.Inner.Urls.{open_urls}
use Rattle.esm_loads.specs.Inner.Arriving.{NonePending}
use Rattle.esm_loads.specs.declared.loads.Loads.{Loads}
use Rattle.esm_loads.proofs.Arrived as arrived
use Rattle.esm_loads.proofs.arriving.arrive.Goals as goal

pub store-requires-clause-fits : goal.store-requires-clause-fits
store-requires-clause-fits c = subst (λ l. FitRecords l (records_of c.args.realm.now)) (sym c.in-Ok.ensures.ok) (arrived.counted_fits c.args.loads.now (c.args.loads.now.urls.bytes + c.bytes_of.result) (records_of c.args.realm.now) c.requires.fits)

pub store-requires-clause-open : goal.store-requires-clause-open
store-requires-clause-open c = subst (λ (l : Loads). has (open_urls l.urls.slots) c.args.url.now ≡ true) (sym c.in-Ok.ensures.ok) c.requires.open

pub store-requires-clause-answered : goal.store-requires-clause-answered
store-requires-clause-answered c = subst NonePending (sym c.in-Ok.ensures.ok) c.requires.answered

pub returns-in-Ok-store-clause-arrives : goal.returns-in-Ok-store-clause-arrives
returns-in-Ok-store-clause-arrives c named ps =
    let t = c.args.loads.now in
    let R = records_of c.args.realm.now in
    let maps = c.args.map.now in
    let u = c.args.url.now in
    let v = outcome_view c.args.outcome.now in
    c.in-Ok-store.ensures.stored named ps
    ∙ (ap (λ l. put_found (host_of named ps c.args.errors.now (loading_of maps l R)) u (found maps every_form u v)) c.in-Ok.ensures.ok
    ∙ (ap (λ n. put_found (host_of named ps c.args.errors.now (loading_of maps (record t { urls = record t.urls { bytes = t.urls.bytes + n } }) R)) u (found maps every_form u v)) c.bytes_of.ensures
    ∙ sym (arrived.counted_is named maps ps c.args.errors.now t R u v (subst (λ n. t.urls.bytes + n ≤ 16777216) c.bytes_of.ensures c.in-Ok.ensures.room))))

pub returns-in-Err-clause-limit : goal.returns-in-Err-clause-limit
returns-in-Err-clause-limit c named ps limit e =
    let t = c.args.loads.now in
    let stop = c.in-Err.ensures.limit limit e in
    arrived.limit_is named c.args.map.now ps c.args.errors.now t (records_of c.args.realm.now) c.args.url.now (outcome_view c.args.outcome.now) limit stop.0 (subst (λ n. 16777216 < t.urls.bytes + n) c.bytes_of.ensures stop.1)
