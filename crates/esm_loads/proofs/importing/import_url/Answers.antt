-- The load is added, and its root is asked for or answered.
use Rattle.std.proofs.Common.{◌≡◌, ap, subst, refl, ◌∙◌, length, arith, Ok, Err, ◌∷◌, [], length-append}
use Rattle.std.proofs.lemmas.Option.{slice_get_within}
use Rattle.esm_realm.specs.Sound.{records_of}
use Rattle.esm_loads.specs.Loading.{Loading, Root, ask}
use Rattle.esm_loads.specs.ImportCall as import_call
use Rattle.esm_loads.specs.LoadsView.{urls_of, url_at}
use Rattle.esm_loads.specs.LoadsAsLoading.{loading_of, trees_of}
use Rattle.esm_loads.specs.Fits.{IsFetching}
use Rattle.esm_loads.specs.Hosted.{host_of}
use Rattle.esm_loads.specs.Inner.Asking.{IsFetchedAs}
use Rattle.esm_loads.specs.Inner.Flags.{asked_load}
use Rattle.esm_loads.specs.Inner.Stepping.{IsAnsweredIn}
use Rattle.esm_loads.specs.declared.data.Requester.TheVariants as requesters
use Rattle.esm_loads.specs.declared.loads.Loads.{Loads}
use Rattle.esm_loads.proofs.Places.{not_err}
use Rattle.esm_loads.proofs.AnswerFacts.{none_some}
use Rattle.esm_loads.proofs.PublicFacts as facts
use Rattle.esm_loads.proofs.FillFacts.{fills_same}
use Rattle.esm_loads.proofs.ImportFacts as imports
use Rattle.esm_loads.proofs.importing.import_url.Goals as goal

pub respond-requires-clause-fits : goal.respond-requires-clause-fits
respond-requires-clause-fits c = facts.added_fits c.args.loads.now c.add_load.new.loads (records_of c.args.realm.now) _ c.requires.fits c.in-Ok.ensures.adds

pub respond-requires-clause-place : goal.respond-requires-clause-place
respond-requires-clause-place c =
    let x = c.in-Some.ensures.some in
    slice_get_within c.add_load.new.loads.urls.slots c.in-Some.place x.slot x.at

pub respond-requires-clause-load : goal.respond-requires-clause-load
respond-requires-clause-load c =
    let e = ap length c.in-Ok.ensures.adds.loads in
    omega (arith, e, c.in-Ok.ensures.number, length-append c.args.loads.now.loads.items (asked_load ∷ []))

pub ask_root-requires-clause-fits : goal.ask_root-requires-clause-fits
ask_root-requires-clause-fits c = facts.added_fits c.args.loads.now c.add_load.new.loads (records_of c.args.realm.now) _ c.requires.fits c.in-Ok.ensures.adds

pub ask_root-requires-clause-load : goal.ask_root-requires-clause-load
ask_root-requires-clause-load c =
    let e = ap length c.in-Ok.ensures.adds.loads in
    omega (arith, e, c.in-Ok.ensures.number, length-append c.args.loads.now.loads.items (asked_load ∷ []))

pub ask_root-requires-clause-fetching : goal.ask_root-requires-clause-fetching
ask_root-requires-clause-fetching c = c.in-None.ensures.none refl

pub returns-in-Ok-respond-clause-rooted : goal.returns-in-Ok-respond-clause-rooted
returns-in-Ok-respond-clause-rooted c named maps =
    let t = c.args.loads.now in
    let m = c.add_load.new.loads in
    let R = records_of c.args.realm.now in
    let u = c.args.url.now in
    let k = c.in-Some.place in
    let ps = c.args.promises.now in
    let es = c.args.errors.now in
    let h = host_of named ps es (loading_of maps t R) in
    let adds = c.in-Ok.ensures.adds in
    let x : IsFetchedAs t.urls.slots u k = subst (λ (l : Loads). IsFetchedAs l.urls.slots u k) adds.rest c.in-Some.ensures.some in
    let found = imports.fetched_entry (trees_of t) R t u k c.requires.fits x in
    let url = imports.fetched_url t u k x in
    let host = subst (λ l. host_of named ps es (loading_of maps l R) ≡ import_call.add_load h c.args.promise.0) adds.rest (imports.added_host named maps R t m c.args.promise ps es adds) in
    let given = subst (λ l. IsAnsweredIn named maps l ps es R (record { load = c.in-Ok.load; requester = requesters.Root }) k (Ok c.in-Ok-respond.field-0) c.respond.new.loads c.respond.new.promises c.respond.new.errors (records_of c.respond.new.realm)) adds.rest (c.in-Ok-respond.ensures.answered named maps) in
    record {
      asks = λ none. absurd (none_some _ found.0 none found.1);
      answers = λ e at. (imports.root_answered h _ c.args.promise.0 c.in-Ok.load u (url_at (urls_of t.urls.slots) k) e _ host (imports.number_is named maps R t ps es c.in-Ok.load c.in-Ok.ensures.number) url (given e (ap (loading_of maps t R).entries url ∙ at)).0, λ limit y. not_err _ _ y);
    }

pub returns-in-Err-respond-clause-rooted : goal.returns-in-Err-respond-clause-rooted
returns-in-Err-respond-clause-rooted c named maps =
    let t = c.args.loads.now in
    let m = c.add_load.new.loads in
    let R = records_of c.args.realm.now in
    let u = c.args.url.now in
    let k = c.in-Some.place in
    let ps = c.args.promises.now in
    let es = c.args.errors.now in
    let h = host_of named ps es (loading_of maps t R) in
    let adds = c.in-Ok.ensures.adds in
    let x : IsFetchedAs t.urls.slots u k = subst (λ (l : Loads). IsFetchedAs l.urls.slots u k) adds.rest c.in-Some.ensures.some in
    let found = imports.fetched_entry (trees_of t) R t u k c.requires.fits x in
    let url = imports.fetched_url t u k x in
    let host = subst (λ l. host_of named ps es (loading_of maps l R) ≡ import_call.add_load h c.args.promise.0) adds.rest (imports.added_host named maps R t m c.args.promise ps es adds) in
    let given = subst (λ l. IsAnsweredIn named maps l ps es R (record { load = c.in-Ok.load; requester = requesters.Root }) k (Err c.in-Err-respond.end) c.respond.new.loads c.respond.new.promises c.respond.new.errors (records_of c.respond.new.realm)) adds.rest (c.in-Err-respond.ensures.answered named maps) in
    record {
      asks = λ none. absurd (none_some _ found.0 none found.1);
      answers = λ e at. (
        tt,
        λ limit y. imports.root_answered h _ c.args.promise.0 c.in-Ok.load u (url_at (urls_of t.urls.slots) k) e _ host (imports.number_is named maps R t ps es c.in-Ok.load c.in-Ok.ensures.number) url ((given e (ap (loading_of maps t R).entries url ∙ at)).1 limit y),
      );
    }

pub returns-in-Ok-ask_root-clause-rooted : goal.returns-in-Ok-ask_root-clause-rooted
returns-in-Ok-ask_root-clause-rooted c named maps =
    let t = c.args.loads.now in
    let m = c.add_load.new.loads in
    let R = records_of c.args.realm.now in
    let u = c.args.url.now in
    let ps = c.args.promises.now in
    let es = c.args.errors.now in
    let h = host_of named ps es (loading_of maps t R) in
    let adds = c.in-Ok.ensures.adds in
    let fetching : IsFetching t u = subst (λ l. IsFetching l u) adds.rest (c.in-None.ensures.none refl) in
    let is = ap (λ (l : Loading). ask l u (Root c.in-Ok.load)) (facts.added_is maps R t m _ adds) ∙ ap (λ s. ask (import_call.add_load h c.args.promise.0).imports u (Root s)) (imports.number_is named maps R t ps es c.in-Ok.load c.in-Ok.ensures.number) in
    record {
      asks = λ none. (ap (host_of named ps es) (c.in-Ok-ask_root.ensures.asks maps ∙ is), λ limit y. not_err _ _ y);
      answers = λ e at. absurd (none_some _ e (imports.fetching_none (trees_of t) R t u fetching) at);
    }

pub returns-in-Err-ask_root-clause-rooted : goal.returns-in-Err-ask_root-clause-rooted
returns-in-Err-ask_root-clause-rooted c named maps =
    let t = c.args.loads.now in
    let m = c.add_load.new.loads in
    let R = records_of c.args.realm.now in
    let u = c.args.url.now in
    let ps = c.args.promises.now in
    let es = c.args.errors.now in
    let h = host_of named ps es (loading_of maps t R) in
    let adds = c.in-Ok.ensures.adds in
    let fetching : IsFetching t u = subst (λ l. IsFetching l u) adds.rest (c.in-None.ensures.none refl) in
    let is = ap (λ (l : Loading). ask l u (Root c.in-Ok.load)) (facts.added_is maps R t m _ adds) ∙ ap (λ s. ask (import_call.add_load h c.args.promise.0).imports u (Root s)) (imports.number_is named maps R t ps es c.in-Ok.load c.in-Ok.ensures.number) in
    record {
      asks = λ none. (tt, λ limit y. ap (host_of named ps es) (c.in-Err-ask_root.ensures.limit maps limit y ∙ is));
      answers = λ e at. absurd (none_some _ e (imports.fetching_none (trees_of t) R t u fetching) at);
    }

pub returns-in-Ok-ask_root-clause-fills : goal.returns-in-Ok-ask_root-clause-fills
returns-in-Ok-ask_root-clause-fills c = fills_same c.ask_root.new.loads.urls.slots (records_of c.args.realm.now)
