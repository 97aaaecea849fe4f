-- Over the modules of a closure each call of evaluation has an outcome, and so has a body that goes on.
use Rattle.std.proofs.Common.{◌≡◌, ℕ, zero, suc, Bool, true, false, cond, ◌&&◌, List, [], ◌∷◌, ◌++◌, map, Option, Some, None, refl, ap, subst, sym, ◌∙◌}
use Rattle.std.specs.Prelude.{Result, Ok, Err, ⊤, ◌||◌, slice_get, filter}
use Rattle.std.specs.List.{AllByRecursion}
use Rattle.esm_base.specs.declared.limits.Limit.{Limit}
use Rattle.esm_base.specs.Lists.{IsSameness, is_in}
use Rattle.esm_base.specs.Urls.{Url}
use Rattle.esm_values.specs.Value.{Undefined, Truth, Text, Func, Error, Namespace, Promise}
use Rattle.esm_values.specs.Ran.{Ran}
use Rattle.esm_values.specs.Ran.{Ran as ran}
use Rattle.esm_promise.specs.Promises as p
use Rattle.esm_promise.specs.Promises.{Promises, Settled, Fulfilled, Rejected, Pending, Done, Job, job, make, make_fulfilled, settle, triggered, register, register_by, next_promise, next_job, settled, settled_by}
use Rattle.esm_promise.specs.Reactions.{Reaction, Await, BodyEnd, Loaded, Evaluated, EntryLoaded, EntryDone}
use Rattle.esm_promise.specs.Outer.{Outer}
use Rattle.esm_resolve.specs.SharedSet.{SharedSetAgrees, SharedSetEnds}
use Rattle.esm_expr_eval.specs.Ready.{Holds}
use Rattle.esm_env.specs.Modules.{Modules, entries}
use Rattle.esm_eval.specs.Nodes.{Node, Start, Run, was_entered}
use Rattle.esm_eval.specs.Evaluation.{phase}
use Rattle.esm_eval.specs.Keeping.{IsNodeOf, CanEvaluate, HasOutcomes, throws_known}
use Rattle.esm_eval.proofs.HasEvaluation.{has_evaluation}
use Rattle.esm_rewriting.specs.State.{State, Importing}
use Rattle.esm_rewriting.specs.Bodies.{Taken, take_standing, await_on, given_by, ResumesBody}
use Rattle.esm_rewriting.specs.Fits.{AreLinked, IsKnown, FitsState}
use Rattle.esm_rewriting.proofs.LinkedRead.{linked_read}
use Rattle.esm_rewriting.proofs.SomeAct.{BeginsSome}
use Rattle.esm_rewriting.proofs.SomeBody.{some_start, some_run, some_resume, RanKnown}
use Rattle.esm_world.specs.ImportCalls.{holds_import}
use Rattle.esm_world.proofs.Each.{pushed, joined, put}
use Rattle.esm_direct_laws.proofs.Members.{Member, same_member, members_apart, every, every_is}
use Rattle.esm_direct_laws.proofs.MemberWorld.{M, V, EntryM, Underway, Ended, Failed, WorldM, Nothing, state, with_state, with_promises, only_these, CallsM, evaluation_m, lawful_m}
use Rattle.esm_order_laws.proofs.QuietMoves.{Nowhere}
use Rattle.esm_order_laws.proofs.QuietBodies.{QuietStanding, starts_quiet, runs_quiet, resumes_quiet}

-- an import() that does nothing, in the place of one that never begins
abbrev pub Idle : {N I : Type 0} → Importing N I
Idle o m text q how x = (how ≡ Ok tt) × (x ≡ o)

-- those of a list that a test keeps
kept : {N : Type 0} (same : N → N → Bool) (d : IsSameness same) (test : N → Bool) (xs : List N) (u : N) → is_in same (filter test xs) u ≡ (test u && is_in same xs u)
kept same d test [] u = none (test u)
  where
    none : (b : Bool) → false ≡ (b && false)
    none true = refl
    none false = refl
kept same d test (x ∷ xs) u = by (same u x) refl (test x) refl (kept same d test xs u)
  where
    skip : (a : Bool) (b : Bool) → a ≡ false → (a && b) ≡ (a && true)
    skip true b e = absurd cc
    skip false b e = refl

    by : (s : Bool) → same u x ≡ s → (b : Bool) → test x ≡ b → is_in same (filter test xs) u ≡ (test u && is_in same xs u)
        → is_in same (cond b (x ∷ filter test xs) (filter test xs)) u ≡ (test u && (s || is_in same xs u))
    by true e true f rest = ap (λ s. s || is_in same (filter test xs) u) e ∙ sym (ap (λ a. a && true) (ap test (d.equal u x e) ∙ f))
    by true e false f rest = rest ∙ skip (test u) (is_in same xs u) (ap test (d.equal u x e) ∙ f)
    by false e true f rest = ap (λ s. s || is_in same (filter test xs) u) e ∙ rest
    by false e false f rest = rest

module _ (xs : List Url) (g : Modules (Member xs)) (are_linked : AreLinked g (λ m. true)) (quiet : (m : Member xs) → holds_import (g.tree m) ≡ false) (agrees : SharedSetAgrees) (ends : SharedSetEnds) where
  -- ---- values and promises

  abbrev pub Known : V xs → Type 0
  Known v = IsKnown g (λ m. true) v

  abbrev pub KnownSettled : Settled (V xs) → Type 0
  KnownSettled (Fulfilled v) = Known v
  KnownSettled (Rejected v) = Known v

  -- no load but the entry's
  abbrev pub Plain : Reaction (M xs) → Type 0
  Plain (Await m) = ⊤
  Plain (BodyEnd m) = ⊤
  Plain (Loaded load) = ⊥
  Plain (Evaluated load) = ⊥
  Plain EntryLoaded = ⊤
  Plain EntryDone = ⊤

  abbrev P : Type 0
  P = p.Promise (Reaction (M xs)) (V xs)

  abbrev Ps : Type 0
  Ps = Promises (Reaction (M xs)) (V xs)

  abbrev pub FitPromise : P → Type 0
  FitPromise (Pending rs) = AllByRecursion Plain rs
  FitPromise (Done how) = KnownSettled how

  abbrev FitJob : Job (Reaction (M xs)) → Type 0
  FitJob j = Plain j.reaction

  pub record FitPs (ps : Ps) : Type 0 where
    pub all : AllByRecursion FitPromise ps.all
    pub jobs : AllByRecursion FitJob ps.jobs

  abbrev At : Option P → Type 0
  At None = ⊤
  At (Some x) = FitPromise x

  got : (all : List P) (i : ℕ) → AllByRecursion FitPromise all → At (slice_get all i)
  got [] i h = tt
  got (x ∷ all) zero h = h.0
  got (x ∷ all) (suc i) h = got all i h.1

  jobs_of : (q : ℕ) (rs : List (Reaction (M xs))) → AllByRecursion Plain rs → AllByRecursion FitJob (map (job q) rs)
  jobs_of q [] h = tt
  jobs_of q (r ∷ rs) h = (h.0, jobs_of q rs h.1)

  trigger : (q : ℕ) (o : Option P) → At o → AllByRecursion FitJob (triggered q o)
  trigger q None h = tt
  trigger q (Some (Pending rs)) h = jobs_of q rs h
  trigger q (Some (Done how)) h = tt

  pub made : (ps : Ps) (rs : List (Reaction (M xs))) → AllByRecursion Plain rs → FitPs ps → FitPs (make ps rs)
  made ps rs r h = record { all = pushed FitPromise ps.all (Pending rs) h.all r; jobs = h.jobs }

  pub settles : (ps : Ps) (q : ℕ) (how : Settled (V xs)) → KnownSettled how → FitPs ps → FitPs (settle ps q how)
  settles ps q how k h = record {
    all = put FitPromise ps.all q (Done how) h.all k;
    jobs = joined FitJob ps.jobs (triggered q (slice_get ps.all q)) h.jobs (trigger q (slice_get ps.all q) (got ps.all q h.all));
  }

  registered_by : (o : Option P) (ps : Ps) (q : ℕ) (r : Reaction (M xs)) → At o → Plain r → FitPs ps → FitPs (register_by o ps q r)
  registered_by None ps q r a k h = h
  registered_by (Some (Pending rs)) ps q r a k h = record { all = put FitPromise ps.all q (Pending (rs ++ r ∷ [])) h.all (pushed Plain rs r a k); jobs = h.jobs }
  registered_by (Some (Done how)) ps q r a k h = record { all = h.all; jobs = pushed FitJob ps.jobs (job q r) h.jobs k }

  pub registers : (ps : Ps) (q : ℕ) (r : Reaction (M xs)) → Plain r → FitPs ps → FitPs (register ps q r)
  registers ps q r k h = registered_by (slice_get ps.all q) ps q r (got ps.all q h.all) k h

  awaits_new : (ps : Ps) (v : V xs) (m : M xs) → Known v → FitPs ps → FitPs (register (make_fulfilled ps v) (next_promise ps) (Await m))
  awaits_new ps v m k h = registers (make_fulfilled ps v) (next_promise ps) (Await m) tt (record { all = pushed FitPromise ps.all (Done (Fulfilled v)) h.all k; jobs = h.jobs })

  awaits : (ps : Ps) (v : V xs) (m : M xs) → Known v → FitPs ps → FitPs (await_on ps v m)
  awaits ps Undefined m k h = awaits_new ps Undefined m k h
  awaits ps (Truth b) m k h = awaits_new ps (Truth b) m k h
  awaits ps (Text t) m k h = awaits_new ps (Text t) m k h
  awaits ps (Func n i) m k h = awaits_new ps (Func n i) m k h
  awaits ps (Error e) m k h = awaits_new ps (Error e) m k h
  awaits ps (Namespace n) m k h = awaits_new ps (Namespace n) m k h
  awaits ps (Promise q) m k h = registers ps q (Await m) tt h

  -- what the first job is given
  settled_known : (o : Option P) (how : Settled (V xs)) → At o → settled_by o ≡ Some how → KnownSettled how
  settled_known None how h e = cc
  settled_known (Some (Pending rs)) how h e = cc
  settled_known (Some (Done by)) how h e = let same : by ≡ how = cc in subst KnownSettled same h

  pub result_known : (ps : Ps) (q : ℕ) (how : Settled (V xs)) → FitPs ps → settled ps q ≡ Some how → KnownSettled how
  result_known ps q how h e = settled_known (slice_get ps.all q) how (got ps.all q h.all) e

  pub first_plain : (js : List (Job (Reaction (M xs)))) (ps : Ps) (j : Job (Reaction (M xs))) (left : Ps) → AllByRecursion FitPromise ps.all → AllByRecursion FitJob js → p.first_job js ps ≡ Some (j, left) → Plain j.reaction × FitPs left
  first_plain [] ps j left a h e = cc
  first_plain (k ∷ js) ps j left a h e =
      let both : ◌≡◌ {A = Job (Reaction (M xs)) × Ps} (k, record ps { jobs = js }) (j, left) = cc in
      let one : k ≡ j = ap (λ x. x.0) both in
      let rest : record ps { jobs = js } ≡ left = ap (λ x. x.1) both in
      (subst (λ (x : Job (Reaction (M xs))). Plain x.reaction) one h.0, subst FitPs rest (record { all = a; jobs = h.1 }))

  -- ---- states

  abbrev pub S : Type 0
  S = State (M xs) (Nothing xs)

  abbrev pub these : Nothing xs → Modules (M xs)
  these i = only_these xs g i

  abbrev pub all_linked : Nothing xs → M xs → Bool
  all_linked i m = true

  abbrev pub Whole : Outer (M xs) (Nothing xs) → Type 0
  Whole o = FitPs o.promises

  abbrev pub Fit : S → Type 0
  Fit s = FitsState these all_linked Whole s

  holds_settled : (how : Settled (V xs)) → Holds Known ⊥ (given_by how) → KnownSettled how
  holds_settled (Fulfilled v) h = h
  holds_settled (Rejected v) h = h

  pub settled_holds : (how : Settled (V xs)) → KnownSettled how → Holds Known ⊥ (given_by how)
  settled_holds (Fulfilled v) h = h
  settled_holds (Rejected v) h = h

  some : BeginsSome these all_linked Whole Idle
  some = record {
    readable = λ o f. linked_read g (λ m. true) agrees ends are_linked;
    errors = λ o es f. f;
    makes = λ o f. made o.promises [] tt f;
    settles = λ o q how k f. settles o.promises q how (holds_settled how k) f;
    awaits = λ o v m k l f. awaits o.promises v m k f;
    some = λ o m text q f. (Ok tt, (o, ((refl, refl), (f, λ v k. k))));
  }

  abbrev Good : Nothing xs → Type 0
  Good i = ⊤

  trees : (i : Nothing xs) → Good i → (m : M xs) → holds_import ((these i).tree m) ≡ false
  trees i t m = quiet m

  -- ---- worlds

  abbrev pub KnownEntry : EntryM xs → Type 0
  KnownEntry Underway = ⊤
  KnownEntry Ended = ⊤
  KnownEntry (Failed v) = Known v

  abbrev pub IsModule : M xs → Type 0
  IsModule m = ⊤

  pub record FitsM (w : WorldM xs) : Type 0 where
    pub fits : Fit (state xs w)
    pub calm : QuietStanding w.engine.standing
    pub nodes : (m : M xs) → IsNodeOf IsModule Known (w.nodes m)
    pub entry : KnownEntry w.entry

  pub with_fit : (w : WorldM xs) (ps : Ps) → FitsM w → FitPs ps → FitsM (with_promises xs w ps)
  with_fit w ps f k = record { fits = record { whole = k; cells = f.fits.cells; standing = f.fits.standing }; calm = f.calm; nodes = f.nodes; entry = f.entry }

  pub with_fit_state : (w : WorldM xs) (s : S) → FitsM w → Fit s → QuietStanding s.engine.standing → FitsM (with_state xs w s)
  with_fit_state w s f k q = record { fits = k; calm = q; nodes = f.nodes; entry = f.entry }

  put_fits : (w : WorldM xs) (x : M xs) (n : Node (M xs) (V xs)) → FitsM w → IsNodeOf IsModule Known n → FitsM ((evaluation_m xs g).put w x n)
  put_fits w x n f k = record { fits = f.fits; calm = f.calm; nodes = λ m. by m (same_member xs x m); entry = f.entry }
    where
      by : (m : M xs) (b : Bool) → IsNodeOf IsModule Known (cond b n (w.nodes m))
      by m true = k
      by m false = f.nodes m

  entered_list : (w : WorldM xs) → (closed : List (M xs)) × ((x : M xs) → is_in (same_member xs) closed x ≡ was_entered (phase (evaluation_m xs g) w x))
  entered_list w = (
    filter (λ m. was_entered (w.nodes m).phase) (every xs),
    λ x. kept (same_member xs) (members_apart xs) (λ m. was_entered (w.nodes m).phase) (every xs) x
        ∙ ap (λ b. was_entered (w.nodes x).phase && b) (every_is xs x) ∙ and_true (was_entered (w.nodes x).phase),
  )
    where
      and_true : (b : Bool) → (b && true) ≡ b
      and_true true = refl
      and_true false = refl

  starts : (w : WorldM xs) (m : M xs) → FitsM w → (r : Result (Unit {0}) Limit) × (after : WorldM xs)
      × CallsM xs g ((evaluation_m xs g).make_body_promise w m) (Start m ((evaluation_m xs g).next_promise w)) r after × FitsM after
  starts w m f =
      let late = (evaluation_m xs g).make_body_promise w m in
      let fit = with_fit w (make w.promises (BodyEnd m ∷ [])) f (made w.promises (BodyEnd m ∷ []) (tt, tt) f.fits.whole) in
      let s = some_start (same_member xs) these all_linked Whole Idle some (state xs late) m (next_promise w.promises) fit.fits refl in
      let q = starts_quiet (same_member xs) these Idle Good trees (members_apart xs) (fit.calm, tt) s.1.1.0 in
      (s.0, with_state xs late s.1.0, CallsM.start q.0, with_fit_state late s.1.0 fit s.1.1.1.fits q.1.0)

  thrown : (r : Result (Ran (V xs)) Limit) → RanKnown (same_member xs) these all_linked Whole Idle some tt r → throws_known Known r
  thrown (Ok (ran.Thrown v)) k = k
  thrown (Ok ran.Normal) k = tt
  thrown (Err why) k = tt

  runs : (w : WorldM xs) (m : M xs) → FitsM w → (entries g m).awaits ≡ false → (r : Result (Ran (V xs)) Limit) × (after : WorldM xs)
      × CallsM xs g w (Run m) r after × FitsM after × throws_known Known r
  runs w m f a =
      let s = some_run (same_member xs) these all_linked Whole Idle some (state xs w) m f.fits refl a in
      let q = runs_quiet (same_member xs) these Idle Good trees (members_apart xs) (f.calm, tt) s.1.1.0 in
      (s.0, with_state xs w s.1.0, CallsM.run q.0, with_fit_state w s.1.0 f s.1.1.1.0.fits q.1.0, thrown s.0 s.1.1.1.1)

  -- a body that stands at an await goes on
  pub resumes : (w : WorldM xs) (m : M xs) (t : Taken (M xs)) (how : Settled (V xs)) → FitsM w → take_standing (same_member xs) w.engine.standing m ≡ Some t → KnownSettled how
      → (end : Result (Unit {0}) Limit) × (s : S) × ResumesBody (same_member xs) these Nowhere (state xs w) m how end s × FitsM (with_state xs w s)
  resumes w m t how f e k =
      let s = some_resume (same_member xs) these all_linked Whole Idle some (state xs w) m t how f.fits refl e (settled_holds how k) in
      let q = resumes_quiet (same_member xs) these Idle Good trees (members_apart xs) (f.calm, tt) s.1.1.0 in
      (s.0, s.1.0, q.0, with_fit_state w s.1.0 f s.1.1.1.fits q.1.0)

  can_evaluate : CanEvaluate (evaluation_m xs g) (CallsM xs g) FitsM IsModule Known
  can_evaluate = record {
    modules = every xs;
    among = λ x h. every_is xs x;
    entered = λ w f. entered_list w;
    targets = λ w f x t h k. tt;
    node = λ w f x. f.nodes x;
    stamps = λ w f. λ k d lt. tt;
    put = λ w x n f h k. put_fits w x n f k;
    add_stamp = λ w x f h. record { fits = f.fits; calm = f.calm; nodes = f.nodes; entry = f.entry };
    make_promise = λ w f. with_fit w (make w.promises []) f (made w.promises [] tt f.fits.whole);
    fulfill = λ w q f. with_fit w (settle w.promises q (Fulfilled Undefined)) f (settles w.promises q (Fulfilled Undefined) tt f.fits.whole);
    reject = λ w q v f k. with_fit w (settle w.promises q (Rejected v)) f (settles w.promises q (Rejected v) k f.fits.whole);
    start = λ w m f h a. starts w m f;
    run = λ w m f h a. runs w m f a;
  }

  -- evaluating, and what follows the end of a body, have outcomes that fit
  pub evaluates_m : HasOutcomes (evaluation_m xs g) (CallsM xs g) FitsM IsModule Known
  evaluates_m = has_evaluation (evaluation_m xs g) (CallsM xs g) FitsM IsModule Known (lawful_m xs g) can_evaluate
