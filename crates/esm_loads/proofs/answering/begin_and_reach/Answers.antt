-- The load begins, and goes on.
use Rattle.std.proofs.Common.{◌∙◌, ap, sym, subst, length}
use Rattle.std.proofs.lemmas.Option.{slice_get_within}
use Rattle.esm_realm.specs.Sound.{records_of}
use Rattle.esm_loads.specs.Load.{Enters}
use Rattle.esm_loads.specs.LoadsView.{urls_of, url_at}
use Rattle.esm_loads.specs.LoadsAsLoading.{loading_of}
use Rattle.esm_loads.specs.Fits.{AreJoined, HaveRecords, IsModuleAt}
use Rattle.esm_loads.specs.declared.loads.Loads.{Loads}
use Rattle.esm_loads.specs.Hosted.{stopped_by}
use Rattle.esm_loads.specs.Inner.Flags.{begun_record}
use Rattle.esm_loads.specs.Inner.Steps.{IsLoading}
use Rattle.esm_loads.specs.Inner.Answering.{KeepsUrls, Reaches}
use Rattle.esm_loads.specs.Inner.Targets.{KnowTargets}
use Rattle.esm_loads.proofs.Places.{get_within}
use Rattle.esm_loads.proofs.AnswerFacts.{begun_is, begun_joined, begun_loading, kept_kept, kept_load}
use Rattle.esm_loads.proofs.answering.begin_and_reach.Goals as goal

pub reach-requires-clause-joined : goal.reach-requires-clause-joined
reach-requires-clause-joined c =
    let t = c.args.loads.now in
    let v = get_within t.loads.items c.args.load c.requires.load in
    let m = c.requires.module_at in
    subst (λ t. AreJoined t (length (records_of c.args.realm.now))) (sym (c.begin.ensures v.0 v.1)) (begun_joined t (length (records_of c.args.realm.now)) c.args.load c.args.place c.requires.joined (slice_get_within t.urls.slots c.args.place m.slot m.at))

pub reach-requires-clause-kept : goal.reach-requires-clause-kept
reach-requires-clause-kept c =
    let v = get_within c.args.loads.now.loads.items c.args.load c.requires.load in
    subst (λ (t : Loads). HaveRecords t.urls.slots (records_of c.args.realm.now)) (sym (c.begin.ensures v.0 v.1)) c.requires.kept

pub reach-requires-clause-known : goal.reach-requires-clause-known
reach-requires-clause-known c =
    let v = get_within c.args.loads.now.loads.items c.args.load c.requires.load in
    subst (λ (t : Loads). KnowTargets t.urls (records_of c.args.realm.now)) (sym (c.begin.ensures v.0 v.1)) c.requires.known

pub reach-requires-clause-module_at : goal.reach-requires-clause-module_at
reach-requires-clause-module_at c =
    let v = get_within c.args.loads.now.loads.items c.args.load c.requires.load in
    subst (λ (t : Loads). IsModuleAt t.urls.slots c.args.place c.args.id.0) (sym (c.begin.ensures v.0 v.1)) c.requires.module_at

pub reach-requires-clause-begun : goal.reach-requires-clause-begun
reach-requires-clause-begun c =
    let v = get_within c.args.loads.now.loads.items c.args.load c.requires.load in
    subst (λ t. IsLoading t c.args.load) (sym (c.begin.ensures v.0 v.1)) (begun_loading c.args.loads.now c.args.load c.args.place v.0 v.1)

pub returns-in-Ok-clause-reaches : goal.returns-in-Ok-clause-reaches
returns-in-Ok-clause-reaches c maps =
    let t = c.args.loads.now in
    let R = records_of c.args.realm.now in
    let s = c.args.load in
    let x = url_at (urls_of t.urls.slots) c.args.place in
    let v = get_within t.loads.items s c.requires.load in
    let begun = ap (λ t. loading_of maps t R) (c.begin.ensures v.0 v.1) ∙ begun_is maps R t s c.args.place in
    let url = ap (λ (t : Loads). url_at (urls_of t.urls.slots) c.args.place) (c.begin.ensures v.0 v.1) in
    subst (λ l. Reaches l s x (loading_of maps c.reach.new.loads (records_of c.reach.new.realm))) begun (subst (λ u. Reaches (loading_of maps c.begin.new.loads R) s u (loading_of maps c.reach.new.loads (records_of c.reach.new.realm))) url (c.in-Ok.ensures.reaches maps))

pub returns-in-Ok-clause-kept : goal.returns-in-Ok-clause-kept
returns-in-Ok-clause-kept c =
    let v = get_within c.args.loads.now.loads.items c.args.load c.requires.load in
    kept_kept c.args.loads.now c.begin.new.loads c.reach.new.loads (subst (KeepsUrls c.args.loads.now) (sym (c.begin.ensures v.0 v.1)) (kept_load c.args.loads.now c.args.load (begun_record c.args.place))) c.in-Ok.ensures.kept

pub returns-in-Err-clause-limit : goal.returns-in-Err-clause-limit
returns-in-Err-clause-limit c maps limit e =
    let t = c.args.loads.now in
    let R = records_of c.args.realm.now in
    let s = c.args.load in
    let x = url_at (urls_of t.urls.slots) c.args.place in
    let v = get_within t.loads.items s c.requires.load in
    let begun = ap (λ t. loading_of maps t R) (c.begin.ensures v.0 v.1) ∙ begun_is maps R t s c.args.place in
    let url = ap (λ (t : Loads). url_at (urls_of t.urls.slots) c.args.place) (c.begin.ensures v.0 v.1) in
    let end = stopped_by (loading_of maps c.reach.new.loads (records_of c.reach.new.realm)) limit in
    subst (λ l. Enters l s x end) begun (subst (λ u. Enters (loading_of maps c.begin.new.loads R) s u end) url (c.in-Err.ensures.limit maps limit e))
