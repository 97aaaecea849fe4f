-- By what stands there.
use Rattle.std.proofs.Common.{◌∙◌, ap, sym, subst, refl, [], length, Some}
use Rattle.esm_realm.specs.Sound.{records_of}
use Rattle.esm_loads.specs.Load.{Enters, Answers}
use Rattle.esm_loads.specs.Loading.{begin}
use Rattle.esm_loads.specs.LoadsView.{urls_of, url_at, request_by}
use Rattle.esm_loads.specs.LoadsAsLoading.{loading_of, trees_of}
use Rattle.esm_loads.specs.Fits.{AreJoined}
use Rattle.esm_loads.specs.Hosted.{stopped_by}
use Rattle.esm_loads.specs.Inner.Steps.{IsLoading}
use Rattle.esm_loads.specs.Inner.Answering.{KeepsUrls, Reaches, IsAnswered, MayGoOnBy}
use Rattle.esm_loads.specs.Inner.Targets.{KnowTargets}
use Rattle.esm_loads.specs.declared.loads.Loads.{Loads}
use Rattle.esm_loads.specs.declared.data.Stage.TheVariants as stages
use Rattle.esm_loads.specs.declared.data.TargetState.TheVariants as target_states
use Rattle.esm_loads.proofs.Places.{get_within}
use Rattle.esm_loads.proofs.LoadSteps as tables
use Rattle.esm_loads.proofs.EnterFacts as facts
use Rattle.esm_loads.proofs.AnswerFacts as answers
use Rattle.esm_loads.proofs.FillFacts.{fills_same}
use Rattle.esm_loads.proofs.answering.answer.Goals as goal

pub returns-in-Fetching-clause-answers : goal.returns-in-Fetching-clause-answers
returns-in-Fetching-clause-answers c maps e at =
    let t = c.args.loads.now in
    let R = records_of c.args.realm.now in
    let none = facts.told (trees_of t) R t.urls.slots (url_at (urls_of t.urls.slots) c.args.place) (Some c.args.place) target_states.Fetching c.requires.kept (facts.place_own t (length R) c.args.place c.requires.joined c.requires.place) (sym c.in-Fetching.is ∙ c.target_state.ensures) in
    absurd (answers.none_some _ e none at)

pub returns-in-Fetching-clause-kept : goal.returns-in-Fetching-clause-kept
returns-in-Fetching-clause-kept c = answers.kept_same c.args.loads.now

pub returns-in-Fetching-clause-fills : goal.returns-in-Fetching-clause-fills
returns-in-Fetching-clause-fills c = fills_same c.args.loads.now.urls.slots (records_of c.args.realm.now)

pub returns-in-Throws-clause-fills : goal.returns-in-Throws-clause-fills
returns-in-Throws-clause-fills c = fills_same c.set_stage.new.loads.urls.slots (records_of c.args.realm.now)

pub returns-in-Throws-clause-answers : goal.returns-in-Throws-clause-answers
returns-in-Throws-clause-answers c maps =
    let t = c.args.loads.now in
    let R = records_of c.args.realm.now in
    let s = c.args.waiting.load in
    let u = url_at (urls_of t.urls.slots) c.args.place in
    let v = get_within t.loads.items s c.requires.load in
    let stood = facts.told (trees_of t) R t.urls.slots u (Some c.args.place) (target_states.Throws c.in-Throws.cause) c.requires.kept (facts.place_own t (length R) c.args.place c.requires.joined c.requires.place) (sym c.in-Throws.is ∙ c.target_state.ensures) in
    let threw = ap (λ t. loading_of maps t R) (c.set_stage.ensures v.0 v.1) ∙ tables.threw_is maps R t s v.0 v.1 c.in-Throws.cause in
    answers.threw_answer maps R t c.set_stage.new.loads s c.args.waiting.requester u stood.0 c.in-Throws.cause c.requires.going stood.1 stood.2 threw

pub returns-in-Throws-clause-joined : goal.returns-in-Throws-clause-joined
returns-in-Throws-clause-joined c =
    let t = c.args.loads.now in
    let R = records_of c.args.realm.now in
    let s = c.args.waiting.load in
    let v = get_within t.loads.items s c.requires.load in
    let stood = facts.told [] R t.urls.slots (url_at (urls_of t.urls.slots) c.args.place) (Some c.args.place) (target_states.Throws c.in-Throws.cause) c.requires.kept (facts.place_own t (length R) c.args.place c.requires.joined c.requires.place) (sym c.in-Throws.is ∙ c.target_state.ensures) in
    subst (λ t. AreJoined t (length R)) (sym (c.set_stage.ensures v.0 v.1)) (facts.throw_joined t (length R) s v.0 c.in-Throws.cause c.requires.joined v.1 stood.3)

pub returns-in-Throws-clause-known : goal.returns-in-Throws-clause-known
returns-in-Throws-clause-known c =
    let v = get_within c.args.loads.now.loads.items c.args.waiting.load c.requires.load in
    subst (λ (t : Loads). KnowTargets t.urls (records_of c.args.realm.now)) (sym (c.set_stage.ensures v.0 v.1)) c.requires.known

pub returns-in-Throws-clause-kept : goal.returns-in-Throws-clause-kept
returns-in-Throws-clause-kept c =
    let t = c.args.loads.now in
    let v = get_within t.loads.items c.args.waiting.load c.requires.load in
    subst (KeepsUrls t) (sym (c.set_stage.ensures v.0 v.1)) (answers.kept_load t c.args.waiting.load (record v.0 { stage = stages.Thrown c.in-Throws.cause }))

pub returns-in-Ok-clause-answers : goal.returns-in-Ok-clause-answers
returns-in-Ok-clause-answers c maps =
    let t = c.args.loads.now in
    let R = records_of c.args.realm.now in
    let s = c.args.waiting.load in
    let us = urls_of t.urls.slots in
    let u = url_at us c.args.place in
    let L = loading_of maps t R in
    let stood = facts.told (trees_of t) R t.urls.slots u (Some c.args.place) (target_states.Module c.in-Module.at c.in-Module.id) c.requires.kept (facts.place_own t (length R) c.args.place c.requires.joined c.requires.place) (sym c.in-Module.is ∙ c.target_state.ensures) in
    let after = loading_of maps c.begin_and_reach.new.loads (records_of c.begin_and_reach.new.realm) in
    let reached = subst (λ u. Reaches (begin L s u) s u after) stood.4 (c.in-Ok.ensures.reaches maps) in
    subst (λ r. IsAnswered L (request_by us s r) u after) (sym c.in-Root.is) (answers.root_answer L s u stood.0 after stood.1 stood.2 reached)

pub returns-in-Err-clause-limit : goal.returns-in-Err-clause-limit
returns-in-Err-clause-limit c maps limit e x f =
    let t = c.args.loads.now in
    let R = records_of c.args.realm.now in
    let s = c.args.waiting.load in
    let us = urls_of t.urls.slots in
    let u = url_at us c.args.place in
    let L = loading_of maps t R in
    let stood = facts.told (trees_of t) R t.urls.slots u (Some c.args.place) (target_states.Module c.in-Module.at c.in-Module.id) c.requires.kept (facts.place_own t (length R) c.args.place c.requires.joined c.requires.place) (sym c.in-Module.is ∙ c.target_state.ensures) in
    let end = stopped_by (loading_of maps c.begin_and_reach.new.loads (records_of c.begin_and_reach.new.realm)) limit in
    let entered = subst (λ u. Enters (begin L s u) s u end) stood.4 (c.in-Err.ensures.limit maps limit e) in
    subst (λ r. Answers L (request_by us s r) u x end) (sym c.in-Root.is) (answers.root_stops L s u stood.0 end limit stood.1 stood.2 entered refl x f)

pub returns-in-Ok-reach-clause-answers : goal.returns-in-Ok-reach-clause-answers
returns-in-Ok-reach-clause-answers c maps =
    let t = c.args.loads.now in
    let R = records_of c.args.realm.now in
    let s = c.args.waiting.load in
    let us = urls_of t.urls.slots in
    let u = url_at us c.args.place in
    let L = loading_of maps t R in
    let stood = facts.told (trees_of t) R t.urls.slots u (Some c.args.place) (target_states.Module c.in-Module.at c.in-Module.id) c.requires.kept (facts.place_own t (length R) c.args.place c.requires.joined c.requires.place) (sym c.in-Module.is ∙ c.target_state.ensures) in
    let after = loading_of maps c.reach.new.loads (records_of c.reach.new.realm) in
    let b : IsLoading t s = subst (MayGoOnBy t s) c.in-Module-requester.is c.requires.going in
    let reached = subst (λ u. Reaches L s u after) stood.4 (c.in-Ok-reach.ensures.reaches maps) in
    subst (λ r. IsAnswered L (request_by us s r) u after) (sym c.in-Module-requester.is)
    (answers.module_answer L s c.in-Module-requester.request (url_at us c.in-Module-requester.referrer) u stood.0 after _ (tables.open_is maps R t s b.load b.at b.root b.open_is) stood.1 stood.2 reached)

pub returns-in-Err-reach-clause-limit : goal.returns-in-Err-reach-clause-limit
returns-in-Err-reach-clause-limit c maps limit e x f =
    let t = c.args.loads.now in
    let R = records_of c.args.realm.now in
    let s = c.args.waiting.load in
    let us = urls_of t.urls.slots in
    let u = url_at us c.args.place in
    let L = loading_of maps t R in
    let stood = facts.told (trees_of t) R t.urls.slots u (Some c.args.place) (target_states.Module c.in-Module.at c.in-Module.id) c.requires.kept (facts.place_own t (length R) c.args.place c.requires.joined c.requires.place) (sym c.in-Module.is ∙ c.target_state.ensures) in
    let b : IsLoading t s = subst (MayGoOnBy t s) c.in-Module-requester.is c.requires.going in
    let end = stopped_by (loading_of maps c.reach.new.loads (records_of c.reach.new.realm)) limit in
    let entered = subst (λ u. Enters L s u end) stood.4 (c.in-Err-reach.ensures.limit maps limit e) in
    subst (λ r. Answers L (request_by us s r) u x end) (sym c.in-Module-requester.is)
    (answers.module_stops L s c.in-Module-requester.request (url_at us c.in-Module-requester.referrer) u stood.0 end limit _ (tables.open_is maps R t s b.load b.at b.root b.open_is) stood.1 stood.2 entered refl x f)
