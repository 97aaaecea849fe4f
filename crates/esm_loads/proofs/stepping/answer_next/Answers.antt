-- The request that is taken is next.
use Rattle.std.proofs.Common.{◌<◌, ℕ, [], refl, sym, subst, length, arith, Bool, Ok, Err}
use Rattle.esm_base.specs.declared.end.End.TheVariants.{Fault}
use Rattle.std.proofs.lemmas.Option.{slice_get_within}
use Rattle.esm_base.specs.Urls.{Url}
use Rattle.esm_realm.specs.Sound.{records_of}
use Rattle.esm_loads.specs.declared.loads.Loads.{Loads}
use Rattle.esm_loads.proofs.Places.{same_err}
use Rattle.esm_loads.proofs.NextFacts as next_facts
use Rattle.esm_loads.proofs.LoadedFacts.{have_after}
use Rattle.esm_loads.proofs.StepFacts as steps
use Rattle.esm_loads.proofs.Whole.{stays_whole}
use Rattle.esm_loads.proofs.stepping.answer_next.Goals as goal

pub returns-in-None-clause-none : goal.returns-in-None-clause-none
returns-in-None-clause-none c maps none =
    let R = records_of c.args.realm.now in
    next_facts.nothing_next maps R c.args.loads.now (length R) c.requires.fits.joined (c.in-None.ensures.none refl)

pub respond-requires-clause-fits : goal.respond-requires-clause-fits
respond-requires-clause-fits c = steps.fits_taken c.args.loads.now c.take_next.new.loads (records_of c.args.realm.now) c.in-Some.waiting c.requires.fits c.in-Some.ensures.some

pub respond-requires-clause-place : goal.respond-requires-clause-place
respond-requires-clause-place c =
    let x = c.in-Some.ensures.some in
    let t = c.args.loads.now in
    subst (λ (l : Loads). t.delivered < length l.urls.slots) (sym x.new_is) (slice_get_within t.urls.slots t.delivered x.slot x.at)

pub respond-requires-clause-load : goal.respond-requires-clause-load
respond-requires-clause-load c =
    let x = c.in-Some.ensures.some in
    let t = c.args.loads.now in
    let inside : c.in-Some.waiting.load < length t.loads.items = omega (arith, x.load, c.requires.fits.joined.counts) in
    subst (λ (l : Loads). c.in-Some.waiting.load < length l.loads.items) (sym x.new_is) inside

pub returns-in-Ok-clause-answers : goal.returns-in-Ok-clause-answers
returns-in-Ok-clause-answers c named maps e =
    let R = records_of c.args.realm.now in
    (steps.next_answers named maps R c.args.loads.now c.take_next.new.loads c.in-Some.waiting c.requires.fits.joined c.requires.fits.matching.have c.in-Some.ensures.some c.args.promises.now c.respond.new.promises c.args.errors.now c.respond.new.errors (Ok c.in-Ok.field-0) c.respond.new.loads (records_of c.respond.new.realm) (c.in-Ok.ensures.answered named maps)).0

pub returns-in-Err-clause-limit : goal.returns-in-Err-clause-limit
returns-in-Err-clause-limit c named maps limit e =
    let R = records_of c.args.realm.now in
    (steps.next_answers named maps R c.args.loads.now c.take_next.new.loads c.in-Some.waiting c.requires.fits.joined c.requires.fits.matching.have c.in-Some.ensures.some c.args.promises.now c.respond.new.promises c.args.errors.now c.respond.new.errors (Err c.in-Err.end) c.respond.new.loads (records_of c.respond.new.realm) (c.in-Err.ensures.answered named maps)).1 limit (same_err {A = Bool} {B = Unit {0}} (Err c.in-Err.end) (Err c.in-Err.end) c.in-Err.end (Fault limit) refl refl e)

pub returns-in-Ok-clause-loaded : goal.returns-in-Ok-clause-loaded
returns-in-Ok-clause-loaded c maps whole before =
    let R = records_of c.args.realm.now in
    let named : ℕ → Url = λ n. [] in
    let answered = (steps.next_answers named maps R c.args.loads.now c.take_next.new.loads c.in-Some.waiting c.requires.fits.joined c.requires.fits.matching.have c.in-Some.ensures.some c.args.promises.now c.respond.new.promises c.args.errors.now c.respond.new.errors (Ok c.in-Ok.field-0) c.respond.new.loads (records_of c.respond.new.realm) (c.in-Ok.ensures.answered named maps)).0 in
    have_after maps c.respond.new.loads R (records_of c.respond.new.realm) c.in-Ok.ensures.fits (stays_whole.next _ _ whole answered) c.in-Ok.ensures.same c.in-Ok.ensures.fills before
