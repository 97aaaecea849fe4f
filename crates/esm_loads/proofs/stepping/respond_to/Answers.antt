-- The load goes on, and its promise is settled where it has ended.
use Rattle.std.proofs.Common.{ap, refl, sym, ◌∙◌, length, arith}
use Rattle.esm_realm.specs.Sound.{records_of}
use Rattle.esm_loads.specs.LoadsView.{urls_of, url_at}
use Rattle.esm_loads.specs.LoadsAsLoading.{loading_of}
use Rattle.esm_loads.specs.Fits.{IsLoadWithin}
use Rattle.esm_loads.specs.Hosted.{host_of}
use Rattle.esm_loads.specs.declared.loads.Loads.{Loads}
use Rattle.esm_loads.proofs.Places.{all_get, not_err}
use Rattle.esm_loads.proofs.StepFacts as steps
use Rattle.esm_loads.proofs.stepping.respond_to.Goals as goal

pub settle_load-requires-clause-load : goal.settle_load-requires-clause-load
settle_load-requires-clause-load c = omega (arith, c.requires.load, c.in-Ok.ensures.kept.loads)

pub settle_load-requires-clause-purposes : goal.settle_load-requires-clause-purposes
settle_load-requires-clause-purposes c = ap (λ (l : Loads). length l.purposes.items) c.in-Ok.ensures.kept.rest ∙ (c.requires.fits.purposes ∙ sym c.in-Ok.ensures.kept.loads)

pub settle_load-requires-clause-within : goal.settle_load-requires-clause-within
settle_load-requires-clause-within c v at =
    let new = c.answer.new.loads in
    (all_get (IsLoadWithin (length new.urls.slots) (length (records_of c.args.realm.now))) new.loads.items c.args.waiting.load v c.in-Ok.ensures.joined.loads at).0

pub returns-in-Ok-settle_load-clause-answered : goal.returns-in-Ok-settle_load-clause-answered
returns-in-Ok-settle_load-clause-answered c named maps e at =
    let t = c.args.loads.now in
    let new = c.answer.new.loads in
    let R' = records_of c.answer.new.realm in
    let us = urls_of t.urls.slots in (
      steps.settles (host_of named c.args.promises.now c.args.errors.now (loading_of maps t (records_of c.args.realm.now))) us c.args.waiting (url_at us c.args.place) e (loading_of maps new R') _ (c.in-Ok.ensures.answers maps e at) (c.in-Ok-settle_load.ensures named maps R'),
      λ limit x. not_err _ _ x,
    )

pub returns-in-Ok-settle_load-clause-fits : goal.returns-in-Ok-settle_load-clause-fits
returns-in-Ok-settle_load-clause-fits c = steps.fits_after c.args.loads.now c.answer.new.loads (records_of c.args.realm.now) (records_of c.answer.new.realm) c.requires.fits c.in-Ok.ensures.joined c.in-Ok.ensures.known c.in-Ok.ensures.kept c.in-Ok.ensures.same

pub returns-in-Err-clause-answered : goal.returns-in-Err-clause-answered
returns-in-Err-clause-answered c named maps e at =
    let t = c.args.loads.now in
    let us = urls_of t.urls.slots in (
      tt,
      λ limit x. steps.settle_stops named maps (records_of c.answer.new.realm) c.answer.new.loads c.args.promises.now c.args.errors.now
          (host_of named c.args.promises.now c.args.errors.now (loading_of maps t (records_of c.args.realm.now))) us c.args.waiting (url_at us c.args.place) e limit refl refl (c.in-Err.ensures.limit maps limit x e at) (c.in-Err.ensures.going limit x),
    )
