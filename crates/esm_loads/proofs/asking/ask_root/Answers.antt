-- The URL is asked for, unless it was, and the request waits.
use Rattle.std.proofs.Common.{ap, sym, subst, ◌∙◌, length, arith, refl, ℕ, Err}
use Rattle.esm_base.specs.declared.end.End.TheVariants.{Fault}
use Rattle.esm_realm.specs.Sound.{records_of}
use Rattle.esm_loads.specs.Loading.{Root}
use Rattle.esm_loads.specs.Hosted.{stopped_by}
use Rattle.esm_loads.specs.LoadsAsLoading.{loading_of}
use Rattle.esm_loads.specs.Fits.{AreJoined}
use Rattle.esm_loads.specs.Inner.Answering.{KeepsUrls}
use Rattle.esm_loads.specs.Inner.Targets.{KnowTargets}
use Rattle.esm_loads.specs.declared.loads.Loads.{Loads}
use Rattle.esm_loads.proofs.KnownPlaces as places
use Rattle.esm_loads.proofs.Places.{same_err}
use Rattle.esm_loads.proofs.LoadSteps as tables
use Rattle.esm_loads.proofs.EnterFacts as facts
use Rattle.esm_loads.proofs.AnswerFacts as answers
use Rattle.esm_loads.proofs.StepFacts as steps
use Rattle.esm_loads.proofs.asking.ask_root.Goals as goal

pub ask-requires-clause-within : goal.ask-requires-clause-within
ask-requires-clause-within c = facts.found_within c.args.loads.now.urls.slots c.args.url.now c.find-at.result c.find-at.ensures (length c.args.loads.now.queues.queues) c.requires.fits.joined.queues

pub ask-requires-clause-load : goal.ask-requires-clause-load
ask-requires-clause-load c = omega (arith, c.requires.load, c.requires.fits.joined.counts)

pub ask-requires-clause-fits : goal.ask-requires-clause-fits
ask-requires-clause-fits c = c.requires.fits.joined.queues

pub returns-in-Ok-clause-asks : goal.returns-in-Ok-clause-asks
returns-in-Ok-clause-asks c maps =
    let t = c.args.loads.now in
    let R = records_of c.args.realm.now in
    ap (λ t. loading_of maps t R) c.in-Ok.ensures.asks ∙ tables.asked_is maps R t (length R) c.args.url.now c.find-at.result _ c.requires.fits.joined tt (sym c.find-at.ensures) c.in-Ok.ensures.room

pub returns-in-Ok-clause-fits : goal.returns-in-Ok-clause-fits
returns-in-Ok-clause-fits c =
    let t = c.args.loads.now in
    let R = records_of c.args.realm.now in
    let joined = subst (λ t. AreJoined t (length R)) (sym c.in-Ok.ensures.asks) (tables.joined_ask t (length R) c.args.url.now c.find-at.result _ c.requires.fits.joined tt c.requires.usable (sym c.find-at.ensures) c.in-Ok.ensures.room (λ k s e f. c.requires.fetching k s (sym c.find-at.ensures ∙ e) f)) in
    let kept = subst (KeepsUrls t) (sym c.in-Ok.ensures.asks) (answers.kept_grown (length R) c.args.load t _ (facts.grown_ask (length R) c.args.load t c.args.url.now c.find-at.result _ _)) in
    let known = subst (λ (l : Loads). KnowTargets l.urls R) (sym c.in-Ok.ensures.asks) (places.known_asked t c.args.url.now c.find-at.result R c.requires.fits.known) in
    steps.fits_after t c.ask.new.loads R R c.requires.fits joined known kept refl

pub returns-in-Err-clause-limit : goal.returns-in-Err-clause-limit
returns-in-Err-clause-limit c maps limit e =
    let t = c.args.loads.now in
    let R = records_of c.args.realm.now in
    let asks = same_err {A = Unit {0}} {B = ℕ} (Err c.in-Err.end) (Err c.in-Err.end) c.in-Err.end (Fault limit) refl refl e in
    let full = c.in-Err.ensures.limit limit asks in
    ap (λ t. stopped_by (loading_of maps t R) limit) (c.in-Err.ensures.same limit asks) ∙ facts.asked_full maps R t c.args.url.now (Root c.args.load) limit (sym c.find-at.ensures ∙ full.0) full.1 full.2
