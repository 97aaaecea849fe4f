-- By what requests the URL.
use Rattle.std.proofs.Common.{◌≡◌, ap, sym, subst, ◌∙◌, true, false, rules, Ok, Err}
use Rattle.esm_realm.specs.Sound.{records_of}
use Rattle.esm_loads.specs.Loading.{Root}
use Rattle.esm_loads.specs.Host.{Answered, begin_load}
use Rattle.esm_loads.specs.Host.Answered.{late}
use Rattle.esm_loads.specs.LoadsView.{urls_of, url_at, request_of, request_by}
use Rattle.esm_loads.specs.LoadsAsLoading.{loading_of}
use Rattle.esm_loads.specs.Hosted.{host_of}
use Rattle.esm_loads.specs.Inner.Answering.{MayGoOnBy}
use Rattle.esm_loads.specs.Inner.Stepping.{IsSettled}
use Rattle.esm_loads.specs.declared.loads.Loads.{Loads}
use Rattle.esm_loads.proofs.Places.{not_err}
use Rattle.esm_loads.proofs.EnterFacts as facts
use Rattle.esm_loads.proofs.FillFacts.{fills_same}
use Rattle.esm_loads.proofs.StepFacts as steps
use Rattle.esm_loads.proofs.stepping.respond.Goals as goal

pub returns-then-not-is_open-clause-answered : goal.returns-then-not-is_open-clause-answered
returns-then-not-is_open-clause-answered c named maps e at =
    let t = c.args.loads.now in
    let R = records_of c.args.realm.now in
    let us = urls_of t.urls.slots in
    let s = c.args.waiting.load in
    let u = url_at us c.args.place in
    let a = request_of us c.args.waiting in
    let h = host_of named c.args.promises.now c.args.errors.now (loading_of maps t R) in
    let over : c.is_open.result ≡ false = search rules in
    (subst (λ r. Answered h (request_by us s r) u e h) (sym c.in-Module.is) (late (facts.is_over t s c.requires.load c.is_open.result c.is_open.ensures maps R over)), λ limit x. not_err _ _ x)

pub returns-then-not-is_open-clause-fills : goal.returns-then-not-is_open-clause-fills
returns-then-not-is_open-clause-fills c = fills_same c.args.loads.now.urls.slots (records_of c.args.realm.now)

pub respond_to-requires-in-Module-clause-going : goal.respond_to-requires-in-Module-clause-going
respond_to-requires-in-Module-clause-going c =
    let on : c.is_open.result ≡ true = search rules in
    subst (MayGoOnBy c.args.loads.now c.args.waiting.load) (sym c.in-Module.is) (facts.goes_on c.args.loads.now c.args.waiting.load c.requires.load c.is_open.result c.is_open.ensures on)

pub returns-in-Ok-respond_to-clause-answered : goal.returns-in-Ok-respond_to-clause-answered
returns-in-Ok-respond_to-clause-answered c named maps e at =
    let t = c.args.loads.now in
    let R = records_of c.args.realm.now in
    let us = urls_of t.urls.slots in
    let s = c.args.waiting.load in
    let u = url_at us c.args.place in
    let a = request_of us c.args.waiting in
    let h = host_of named c.args.promises.now c.args.errors.now (loading_of maps t R) in
    let m : Loads = record t { purposes = c.begin_load.new.loads.purposes } in
    let before = host_of named c.begin_load.new.promises c.args.errors.now (loading_of maps m R) in
    let begun = subst (λ m. host_of named c.begin_load.new.promises c.args.errors.now (loading_of maps m R) ≡ begin_load h (Root s) u e) c.in-Ok.ensures.rest (c.in-Ok.ensures.begins named maps R c.args.errors.now e at c.requires.fits.matching.have c.requires.fits.joined) in
    let is : before ≡ begin_load h a u e = begun ∙ ap (λ r. begin_load h (request_by us s r) u e) (sym c.in-Root.is) in
    let given = subst (λ m. IsSettled named maps m c.begin_load.new.promises c.args.errors.now R c.args.waiting c.args.place (Ok c.in-Ok-respond_to.field-0) c.respond_to.new.loads c.respond_to.new.promises c.respond_to.new.errors (records_of c.respond_to.new.realm)) c.in-Ok.ensures.rest (c.in-Ok-respond_to.ensures.answered named maps) in
    let f = given e at in
    (steps.began h before a u e _ is f.0, λ limit x. not_err _ _ x)

pub returns-in-Err-respond_to-clause-answered : goal.returns-in-Err-respond_to-clause-answered
returns-in-Err-respond_to-clause-answered c named maps e at =
    let t = c.args.loads.now in
    let R = records_of c.args.realm.now in
    let us = urls_of t.urls.slots in
    let s = c.args.waiting.load in
    let u = url_at us c.args.place in
    let a = request_of us c.args.waiting in
    let h = host_of named c.args.promises.now c.args.errors.now (loading_of maps t R) in
    let m : Loads = record t { purposes = c.begin_load.new.loads.purposes } in
    let before = host_of named c.begin_load.new.promises c.args.errors.now (loading_of maps m R) in
    let begun = subst (λ m. host_of named c.begin_load.new.promises c.args.errors.now (loading_of maps m R) ≡ begin_load h (Root s) u e) c.in-Ok.ensures.rest (c.in-Ok.ensures.begins named maps R c.args.errors.now e at c.requires.fits.matching.have c.requires.fits.joined) in
    let is : before ≡ begin_load h a u e = begun ∙ ap (λ r. begin_load h (request_by us s r) u e) (sym c.in-Root.is) in
    let given = subst (λ m. IsSettled named maps m c.begin_load.new.promises c.args.errors.now R c.args.waiting c.args.place (Err c.in-Err-respond_to.end) c.respond_to.new.loads c.respond_to.new.promises c.respond_to.new.errors (records_of c.respond_to.new.realm)) c.in-Ok.ensures.rest (c.in-Err-respond_to.ensures.answered named maps) in
    let f = given e at in
    (tt, λ limit x. steps.began h before a u e _ is (f.1 limit x))

pub returns-in-Ok-respond_to-2-clause-answered : goal.returns-in-Ok-respond_to-2-clause-answered
returns-in-Ok-respond_to-2-clause-answered c named maps e at =
    let t = c.args.loads.now in
    let R = records_of c.args.realm.now in
    let us = urls_of t.urls.slots in
    let s = c.args.waiting.load in
    let u = url_at us c.args.place in
    let a = request_of us c.args.waiting in
    let h = host_of named c.args.promises.now c.args.errors.now (loading_of maps t R) in
    let is : h ≡ begin_load h a u e = ap (λ r. begin_load h (request_by us s r) u e) (sym c.in-Module.is) in
    let f = c.in-Ok-respond_to-2.ensures.answered named maps e at in
    (steps.began h h a u e _ is f.0, λ limit x. not_err _ _ x)

pub returns-in-Err-respond_to-2-clause-answered : goal.returns-in-Err-respond_to-2-clause-answered
returns-in-Err-respond_to-2-clause-answered c named maps e at =
    let t = c.args.loads.now in
    let R = records_of c.args.realm.now in
    let us = urls_of t.urls.slots in
    let s = c.args.waiting.load in
    let u = url_at us c.args.place in
    let a = request_of us c.args.waiting in
    let h = host_of named c.args.promises.now c.args.errors.now (loading_of maps t R) in
    let is : h ≡ begin_load h a u e = ap (λ r. begin_load h (request_by us s r) u e) (sym c.in-Module.is) in
    let f = c.in-Err-respond_to-2.ensures.answered named maps e at in
    (tt, λ limit x. steps.began h h a u e _ is (f.1 limit x))
