-- By what the specifier resolves to.
use Rattle.std.proofs.Common.{ℕ, [], Ok, Err, ap, sym, subst, refl}
use Rattle.esm_base.specs.Urls.{Url}
use Rattle.esm_realm.specs.ById.{url_at}
use Rattle.esm_realm.specs.Sound.{records_of}
use Rattle.esm_loads.specs.LoadsAsLoading.{loading_of}
use Rattle.esm_loads.specs.Fits.{FitRecords}
use Rattle.esm_loads.specs.Hosted.{host_of}
use Rattle.esm_loads.specs.ImportCall.{BeginsImport}
use Rattle.esm_loads.specs.Loaded.{HaveLoaded}
use Rattle.esm_loads.specs.Inner.Filling.{FillsNew}
use Rattle.esm_loads.proofs.LoadedFacts.{have_after}
use Rattle.esm_loads.proofs.Whole.{stays_whole}
use Rattle.esm_loads.proofs.ImportFacts as facts
use Rattle.esm_loads.proofs.importing.import_call.Goals as goal

pub import_url-requires-clause-fits : goal.import_url-requires-clause-fits
import_url-requires-clause-fits c = subst (λ l. FitRecords l (records_of c.args.realm.now)) (sym c.in-Ok.ensures.ok) (facts.called_fits c.args.loads.now (records_of c.args.realm.now) c.requires.fits c.in-Ok.ensures.room)

pub returns-in-Err-clause-imports : goal.returns-in-Err-clause-imports
returns-in-Err-clause-imports c named =
    facts.full_by (host_of named c.args.promises.now c.args.errors.now (loading_of c.args.import_map.now c.args.loads.now (records_of c.args.realm.now))) (url_at (records_of c.args.realm.now) c.args.referrer.0) c.args.specifier.now c.args.promise.0 (Err c.in-Err.end) _ c.in-Err.ensures.limit
    (λ l e. ap (λ t. host_of named c.args.promises.now c.args.errors.now (loading_of c.args.import_map.now t (records_of c.args.realm.now))) (c.in-Err.ensures.same l e)) tt

pub returns-in-Ok-target_of-clause-imports : goal.returns-in-Ok-target_of-clause-imports
returns-in-Ok-target_of-clause-imports c named =
    let t = c.args.loads.now in
    let R = records_of c.args.realm.now in
    let maps = c.args.import_map.now in
    let h = host_of named c.args.promises.now c.args.errors.now (loading_of maps t R) in
    facts.imports_by h _ (url_at R c.args.referrer.0) c.args.specifier.now c.args.promise.0 c.in-Ok-target_of.target c.import_url.result _
    (ap (λ l. host_of named c.args.promises.now c.args.errors.now (loading_of maps l R)) c.in-Ok.ensures.ok) refl (facts.has_room t.import_calls c.in-Ok.ensures.room) c.in-Ok-target_of.ensures.told (c.import_url.ensures.rooted named maps)

pub returns-in-Ok-target_of-clause-loaded : goal.returns-in-Ok-target_of-clause-loaded
returns-in-Ok-target_of-clause-loaded c whole before =
    let R = records_of c.args.realm.now in
    let new = c.import_url.new.loads in
    let R' = records_of c.import_url.new.realm in
    let maps = c.args.import_map.now in
    let named : ℕ → Url = λ n. [] in
    let h = host_of named c.args.promises.now c.args.errors.now (loading_of maps c.args.loads.now R) in
    let after = host_of named c.import_url.new.promises c.import_url.new.errors (loading_of maps new R') in
    let given = returns-in-Ok-target_of-clause-imports c named in
    facts.ok_three c.import_url.result (FitRecords new R') (FillsNew new.urls.slots R R') (BeginsImport h (url_at R c.args.referrer.0) c.args.specifier.now c.args.promise.0 (Ok tt) after) (HaveLoaded R')
    c.import_url.ensures.fits c.import_url.ensures.fills given.begins
    (λ fit fills begins. have_after maps new R R' fit (stays_whole.imports _ _ _ _ _ whole begins.imports) c.import_url.ensures.same fills before)

pub returns-in-Err-target_of-clause-imports : goal.returns-in-Err-target_of-clause-imports
returns-in-Err-target_of-clause-imports c named =
    let t = c.args.loads.now in
    let R = records_of c.args.realm.now in
    let maps = c.args.import_map.now in
    let h = host_of named c.args.promises.now c.args.errors.now (loading_of maps t R) in
    let l = loading_of maps c.count_call.new.loads R in
    facts.refused_by h (host_of named c.args.promises.now c.args.errors.now l) (url_at R c.args.referrer.0) c.args.specifier.now c.args.promise.0 c.in-Err-target_of.why c.refuse_for.result _
    (ap (λ l. host_of named c.args.promises.now c.args.errors.now (loading_of maps l R)) c.in-Ok.ensures.ok) refl (facts.has_room t.import_calls c.in-Ok.ensures.room) c.in-Err-target_of.ensures.told
    (rw c.url_of-url.ensures at (c.refuse_for.ensures.refuses named l)) c.refuse_for.ensures.memory c.refuse_for.ensures.limit

pub returns-in-Err-target_of-clause-fits : goal.returns-in-Err-target_of-clause-fits
returns-in-Err-target_of-clause-fits c =
    facts.ok_always c.refuse_for.result _ (subst (λ l. FitRecords l (records_of c.args.realm.now)) (sym c.in-Ok.ensures.ok) (facts.called_fits c.args.loads.now (records_of c.args.realm.now) c.requires.fits c.in-Ok.ensures.room))

pub returns-in-Err-target_of-clause-loaded : goal.returns-in-Err-target_of-clause-loaded
returns-in-Err-target_of-clause-loaded c whole before = facts.ok_always c.refuse_for.result _ before
