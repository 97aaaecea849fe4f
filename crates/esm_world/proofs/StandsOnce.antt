-- No body stands at two awaits: each begins once, and goes on where it stood.
use Rattle.std.proofs.Common.{◌≡◌, ◌⊎◌, inl, inr, ℕ, ◌+◌, ◌≤◌, Bool, true, false, cond, List, [], ◌∷◌, ◌++◌, None, refl, ap, subst, sym, ◌∙◌, arith}
use Rattle.std.specs.Prelude.{Result, Ok, Err}
use Rattle.esm_base.specs.declared.limits.Limit.{Limit}
use Rattle.esm_base.specs.Urls.{Url, same_url}
use Rattle.esm_ast.specs.Outcome.{OutcomeView}
use Rattle.esm_realm.proofs.Urls.{cases, same_text}
use Rattle.esm_values.specs.Value.{Value}
use Rattle.esm_promise.specs.Promises.{Settled}
use Rattle.esm_promise.specs.Reactions.{Reaction, EntryDone, Evaluated}
use Rattle.esm_loads.specs.Loading.{Loading}
use Rattle.esm_loads.specs.Arrival.{open_asks}
use Rattle.esm_loads.specs.ImportCall.{BeginsImport}
use Rattle.esm_eval.specs.Nodes.{Call, CallAnswer, Start, module_of}
use Rattle.esm_eval.specs.Begins.{First, HaveBegunOnce}
use Rattle.esm_rewriting.specs.State.{State, Event, Standing, AnswerWith, has_begun, Begins, Ends, Throws, note}
use Rattle.esm_rewriting.specs.Segment.{Ended, Normal, Thrown, Awaiting, Stopped}
use Rattle.esm_rewriting.specs.Bodies.{StartsBody, ResumesBody, segment_end, settle_done, url_in}
use Rattle.esm_world.specs.World.{World, modules_in, body_state, with_state, with_host, opening, stopped}
use Rattle.esm_world.specs.Layers.{CallsForBody, evaluation, with_linked, with_promises}
use Rattle.esm_world.specs.Jobs.{EvaluatesLoad, Reacts, Jobs, when_evaluated}
use Rattle.esm_world.specs.Turn.{Tasks, Turn, fetched}
use Rattle.esm_ast.specs.Deliveries.{Delivery}
use Rattle.esm_world.specs.Run.{Runs}
use Rattle.esm_world.specs.Awaits.{standing_count, AwaitsHaveBodies, RunsHaveBodies}
use Rattle.esm_world.proofs.AwaitCounts.{standing_more, take_count, taken_is}
use Rattle.esm_world.proofs.AwaitsKept.{awaits_keep_bodies}
use Rattle.esm_world.proofs.OuterKeeps.{LastsOuter, noted, segment_around, runs_around}
use Rattle.esm_world.proofs.EvalKeeps.{Lasts, evaluates_keeps, fulfills_keeps, rejects_keeps}
use Rattle.esm_rewriting.proofs.BodyKeeps.{resumes_body_keeps}
use Rattle.esm_world.proofs.Grows.{Progress}
use Rattle.esm_world.proofs.WorldGrows.{imported}
use Rattle.esm_world.proofs.StartsOnce.{Once, begun_alike, call_begins, begun_keeps, steady, makes_first_calls, calm_same, reacts_once, once_same, opening_once, live_by}

abbrev S : Type 0
S = State Url Loading

abbrev Stand : Type 0
Stand = List (Standing Url)

-- ---- a call for a body

any_outer : LastsOuter {N = Url} {I = Loading} BeginsImport (λ o x. Unit {0})
any_outer = record { same = λ o. tt; on = λ p q. tt; errors = λ o es. tt; refuses = λ o es v. tt; imports = λ o x m text r p. tt }

-- as before, or the body of the module stands besides, where the call isn't stopped
data Stood (m : Url) (end : Result (Unit {0}) Limit) (old : Stand) : Stand → Type 0 where
  same : Stood m end old old
  more : (s : Standing Url) → s.at ≡ m → end ≡ Ok tt → Stood m end old (old ++ s ∷ [])

note_standing : (url : Url → List ℕ) (w : S) (event : Event Url) → (note url w event).1.engine.standing ≡ w.engine.standing
note_standing url w event = ap (λ a. a.1) (noted url w event (note url w event) refl)

done_standing : (p : ℕ) (how : Settled (Value Url)) (t : AnswerWith (Unit {0}) S) → (settle_done p how t).1.engine.standing ≡ t.1.engine.standing
done_standing p how (Ok noted, w) = refl
done_standing p how (Err why, w) = refl

ended_so : (url : Url → List ℕ) (m : Url) (done : ℕ) (how : Ended Url) (w : S) → Stood m (segment_end url m done how w).0 w.engine.standing (segment_end url m done how w).1.engine.standing
ended_so url m done Normal w =
    let t = note url w (Ends m) in
    subst (λ ss. Stood m (segment_end url m done Normal w).0 w.engine.standing ss) (sym (done_standing done _ t ∙ note_standing url w (Ends m))) Stood.same
ended_so url m done (Thrown v) w =
    let t = note url w (Throws m) in
    subst (λ ss. Stood m (segment_end url m done (Thrown v) w).0 w.engine.standing ss) (sym (done_standing done _ t ∙ note_standing url w (Throws m))) Stood.same
ended_so url m done (Awaiting v rest) w = Stood.more (record { at = m; done = done; rest = rest }) refl refl
ended_so url m done (Stopped why) w = Stood.same

stood_from : (m : Url) (end : Result (Unit {0}) Limit) (old mid new : Stand) → mid ≡ old → Stood m end mid new → Stood m end old new
stood_from m end old mid new e h = subst (λ ss. Stood m end ss new) e h

started_so : {v : S} {m : Url} {done : ℕ} {end : Result (Unit {0}) Limit} {w : S} → StartsBody same_url modules_in BeginsImport v m done end w → Stood m end v.engine.standing w.engine.standing
started_so {v} {m = m} {w = w} (StartsBody.stopped {why = why} h) =
    subst (λ ss. Stood m (Err why) v.engine.standing ss) (sym (ap (λ a. a.1) (noted (url_in same_url modules_in BeginsImport v) v (Begins m) _ h))) Stood.same
started_so {v} {m = m} {done = done} {end = end} {w = w} (StartsBody.segment {mid = mid} {late = late} {how = how} h p e) =
    stood_from m end v.engine.standing late.engine.standing w.engine.standing
    ((segment_around same_url modules_in BeginsImport (λ o x. Unit {0}) any_outer p).standing ∙ ap (λ a. a.1) (noted (url_in same_url modules_in BeginsImport v) v (Begins m) _ h))
    (subst (λ (t : AnswerWith (Unit {0}) S). Stood m t.0 late.engine.standing t.1.engine.standing) e (ended_so (url_in same_url modules_in BeginsImport v) m done how late))

resumed_so : {v : S} {m : Url} {how : Settled (Value Url)} {end : Result (Unit {0}) Limit} {w : S} → (p : ResumesBody same_url modules_in BeginsImport v m how end w) → Stood m end p.taken.others w.engine.standing
resumed_so {v} {m = m} {end = end} {w = w} p =
    stood_from m end p.taken.others p.late.engine.standing w.engine.standing
    (segment_around same_url modules_in BeginsImport (λ o x. Unit {0}) any_outer p.runs).standing
    (subst (λ (t : AnswerWith (Unit {0}) S). Stood m t.0 p.late.engine.standing t.1.engine.standing) p.ends (ended_so (url_in same_url modules_in BeginsImport v) m p.taken.standing.done p.ended p.late))

-- ---- each stands once

-- no body stands at two awaits, and one that hasn't begun at none
pub record StandOnce (w : World) : Type 0 where
  pub once : (m : Url) → standing_count m w.engine.standing ≤ 1
  pub unbegun : (m : Url) → evaluation.begun w m ≡ false → standing_count m w.engine.standing ≡ 0

abbrev one : Url → Url → ℕ
one m x = cond (same_url m x) 1 0

-- what hasn't begun hadn't
unbegun_before : (v w : World) (x : Url) → (evaluation.begun v x ≡ true → evaluation.begun w x ≡ true) → evaluation.begun w x ≡ false → evaluation.begun v x ≡ false
unbegun_before v w x f h = by (cases (evaluation.begun v x))
  where
    by : (evaluation.begun v x ≡ true) ⊎ (evaluation.begun v x ≡ false) → evaluation.begun v x ≡ false
    by (inl t) = absurd (let a = f t in cc)
    by (inr e) = e

same_stand : (v w : World) → w.engine.standing ≡ v.engine.standing → ((x : Url) → evaluation.begun v x ≡ true → evaluation.begun w x ≡ true) → StandOnce v → StandOnce w
same_stand v w e f h = record {
  once = λ m. subst (λ ss. standing_count m ss ≤ 1) (sym e) (h.once m);
  unbegun = λ m n. ap (λ ss. standing_count m ss) e ∙ h.unbegun m (unbegun_before v w m (f m) n);
}

-- the body of a module that hasn't begun stands besides
more_stand : (v w : World) (m : Url) (s : Standing Url) → s.at ≡ m → w.engine.standing ≡ v.engine.standing ++ s ∷ [] → ((x : Url) → evaluation.begun v x ≡ true → evaluation.begun w x ≡ true) → evaluation.begun v m ≡ false → evaluation.begun w m ≡ true → StandOnce v → StandOnce w
more_stand v w m s at e f late begun h = record { once = λ x. once x (cases (same_url m x)); unbegun = λ x n. unbegun x n (cases (same_url m x)) }
  where
    count : (x : Url) → standing_count x w.engine.standing ≡ standing_count x v.engine.standing + one m x
    count x =
        let a = ap (λ ss. standing_count x ss) e in
        let b = standing_more x v.engine.standing (s ∷ []) in
        let c : ◌≡◌ {A = ℕ} (one s.at x) (one m x) = ap (λ y. one y x) at in
        omega (arith, a, b, c)

    once : (x : Url) → (same_url m x ≡ true) ⊎ (same_url m x ≡ false) → standing_count x w.engine.standing ≤ 1
    once x (inl t) =
        let k = count x in
        let o : ◌≡◌ {A = ℕ} (one m x) 1 = ap (λ b. by b) t in
        let z = h.unbegun x (subst (λ y. evaluation.begun v y ≡ false) (same_text m x t) late) in
        omega (arith, k, o, z)
      where
        by : Bool → ℕ
        by b = cond b 1 0
    once x (inr n) =
        let k = count x in
        let o : ◌≡◌ {A = ℕ} (one m x) 0 = ap (λ b. by b) n in
        let z = h.once x in
        omega (arith, k, o, z)
      where
        by : Bool → ℕ
        by b = cond b 1 0

    unbegun : (x : Url) → evaluation.begun w x ≡ false → (same_url m x ≡ true) ⊎ (same_url m x ≡ false) → standing_count x w.engine.standing ≡ 0
    unbegun x n (inl t) = absurd (let k : evaluation.begun w x ≡ true = subst (λ y. evaluation.begun w y ≡ true) (same_text m x t) begun in cc)
    unbegun x n (inr d) =
        let k = count x in
        let o : ◌≡◌ {A = ℕ} (one m x) 0 = ap (λ b. by b) d in
        let z = h.unbegun x (unbegun_before v w x (f x) n) in
        omega (arith, k, o, z)
      where
        by : Bool → ℕ
        by b = cond b 1 0

-- ---- calls and evaluation

abbrev Grows : World → World → Type 0
Grows v w = (x : Url) → evaluation.begun v x ≡ true → evaluation.begun w x ≡ true

call_stands : {v w : World} {c : Call Url} {r : Result (CallAnswer (Value Url) c) Limit} → CallsForBody v c r w → evaluation.begun v (module_of c) ≡ false → StandOnce v → StandOnce w
call_stands {v} (CallsForBody.start {m = m} {done = done} {end = end} {s = s} q) late h = by (begun_keeps (call_begins (CallsForBody.start {w = v} q))) s.engine.standing refl (started_so q)
  where
    by : Grows v (with_state v s) → (ss : Stand) → s.engine.standing ≡ ss → Stood m end v.engine.standing ss → StandOnce (with_state v s)
    by grows ss e Stood.same = same_stand v (with_state v s) e grows h
    by grows ss e (Stood.more t at ok) =
        more_stand v (with_state v s) m t at e grows late
        (steady.starts v (with_state v s) (Start m done) tt (CallsForBody.start {w = v} (subst (λ o. StartsBody same_url modules_in BeginsImport (body_state v) m done o s) ok q))) h
call_stands {v} (CallsForBody.run {s = s} q) late h =
    same_stand v (with_state v s) (runs_around same_url modules_in BeginsImport (λ o x. Unit {0}) any_outer q).standing (begun_keeps (call_begins (CallsForBody.run {w = v} q))) h

abbrev Keep : World → World → Type 0
Keep v w = StandOnce v → StandOnce w

lasts : Lasts evaluation (First evaluation CallsForBody) Keep
lasts = record {
  same = λ w h. h;
  on = λ p q h. q (p h);
  put = λ w x n h. same_stand w (evaluation.put w x n) refl (λ y k. k) h;
  stamp = λ w x h. same_stand w (evaluation.add_stamp w x) refl (λ y k. k) h;
  make = λ w h. same_stand w (evaluation.make_promise w) refl (λ y k. k) h;
  make_body = λ w x h. same_stand w (evaluation.make_body_promise w x) refl (λ y k. k) h;
  fulfill = λ w p h. same_stand w (evaluation.fulfill w p) refl (λ y k. k) h;
  reject = λ w p v h. same_stand w (evaluation.reject w p v) refl (λ y k. k) h;
  call = λ p h. call_stands p.1 p.0 h;
}

-- ---- jobs

-- the same engine
same_engine : (v w : World) → w.engine ≡ v.engine → StandOnce v → StandOnce w
same_engine v w e h = same_stand v w (ap (λ g. g.standing) e) (λ x k. ap (λ g. has_begun same_url g x) e ∙ k) h

by_answer : (w : World) (r : Reaction Url) (a : Result ℕ Limit) → (when_evaluated w r a).engine ≡ w.engine
by_answer w r (Ok p) = refl
by_answer w r (Err why) = refl

load_stands : {v w : World} {s : ℕ} {a : Result ℕ Limit} → HaveBegunOnce evaluation v → EvaluatesLoad v s a w → (r : Reaction Url) → StandOnce v → StandOnce (when_evaluated w r a)
load_stands {v} {w} {a = a} b p r h =
    let now = with_linked v p.linked in
    let first = makes_first_calls.evaluates now w p.root a (calm_same v now b refl refl refl) p.evaluates in
    same_engine w (when_evaluated w r a) (by_answer w r a)
    (evaluates_keeps evaluation (First evaluation CallsForBody) Keep lasts now p.root first (same_engine v now refl h))

resumes_stand : {v : World} {m : Url} {how : Settled (Value Url)} {end : Result (Unit {0}) Limit} {s : S} → ResumesBody same_url modules_in BeginsImport (body_state v) m how end s → StandOnce v → StandOnce (with_state v s)
resumes_stand {v} {m} {how} {end} {s} p h = by s.engine.standing refl (resumed_so p)
  where
    now : World
    now = with_state v s

    grows : (x : Url) → evaluation.begun now x ≡ evaluation.begun v x
    grows = begun_alike v now (resumes_body_keeps same_url modules_in BeginsImport Progress imported p).starts

    at : p.taken.standing.at ≡ m
    at = taken_is v.engine.standing m p.taken p.stands

    left : (x : Url) → standing_count x v.engine.standing ≡ one m x + standing_count x p.taken.others
    left x =
        let c = take_count x v.engine.standing m p.taken p.stands in
        let d : ◌≡◌ {A = ℕ} (one p.taken.standing.at x) (one m x) = ap (λ y. one y x) at in
        omega (arith, c, d)

    less : ((x : Url) → standing_count x s.engine.standing ≤ standing_count x v.engine.standing) → StandOnce now
    less f = record {
      once = λ x. let a = f x in let b = h.once x in omega (arith, a, b);
      unbegun = λ x n. let a = f x in let b = h.unbegun x (sym (grows x) ∙ n) in omega (arith, a, b);
    }

    by : (ss : Stand) → s.engine.standing ≡ ss → Stood m end p.taken.others ss → StandOnce now
    by ss e Stood.same = less (λ x. let a = left x in let b = ap (λ ss. standing_count x ss) e in omega (arith, a, b))
    by ss e (Stood.more t own ok) = less (λ x.
        let a = left x in
        let b = ap (λ ss. standing_count x ss) e in
        let c = standing_more x p.taken.others (t ∷ []) in
        let d : ◌≡◌ {A = ℕ} (one t.at x) (one m x) = ap (λ y. one y x) own in
        omega (arith, a, b, c, d))

reacts_stand : {v : World} {r : Reaction Url} {how : Settled (Value Url)} {w : World} → HaveBegunOnce evaluation v → Reacts v r how w → StandOnce v → StandOnce w
reacts_stand b (Reacts.entry_linked p) h = load_stands b p EntryDone h
reacts_stand {v} {w = w} b (Reacts.entry_fault root f ls l) h = same_engine v w refl h
reacts_stand {v} {w = w} b Reacts.entry_refused h = same_engine v w refl h
reacts_stand {v} {w = w} b Reacts.entry_ended h = same_engine v w refl h
reacts_stand {v} {w = w} b Reacts.entry_threw h = same_engine v w refl h
reacts_stand b (Reacts.linked {s = s} p) h = load_stands b p (Evaluated s) h
reacts_stand {v} {w = w} b (Reacts.fault p root f ls n l) h = same_engine v w refl h
reacts_stand {v} {w = w} b (Reacts.refused p n) h = same_engine v w refl h
reacts_stand {v} {w = w} b (Reacts.evaluated p root n o) h = same_engine v w refl h
reacts_stand {v} {w = w} b (Reacts.threw p n) h = same_engine v w refl h
reacts_stand {v} {w = w} b (Reacts.body_ended {m = m} {end = a} p) h = fulfills_keeps evaluation (First evaluation CallsForBody) Keep lasts (makes_first_calls.fulfills v w m a b p) h
reacts_stand b (Reacts.body_threw p) h = rejects_keeps evaluation (First evaluation CallsForBody) Keep lasts p h
reacts_stand b (Reacts.resumes p) h = resumes_stand p h

-- ---- runs

record Holds (w : World) : Type 0 where
  bodies : AwaitsHaveBodies w
  stand : StandOnce w
  once : Once w

jobs_stand : {v w : World} → Jobs v w → Holds v → Holds w
jobs_stand (Jobs.none n) h = h
jobs_stand (Jobs.stops limit l) h = h
jobs_stand {v} (Jobs.job {mid = mid} j left how live e q p rest) h =
    let now = with_promises v left in
    let calm = calm_same v now (h.once.calm live) refl refl refl in
    jobs_stand rest (record {
      bodies = awaits_keep_bodies.reacts v mid j left how h.bodies e p;
      stand = reacts_stand calm p (same_engine v now refl h.stand);
      once = reacts_once calm h.once.distinct p;
    })

tasks_stand : {v w : World} → Tasks v w → Holds v → Holds w
tasks_stand (Tasks.none n) h = h
tasks_stand (Tasks.stops limit l) h = h
tasks_stand {v} (Tasks.task {h = o} live a j rest) h =
    tasks_stand rest (jobs_stand j (record {
      bodies = awaits_keep_bodies.answers v o h.bodies a;
      stand = same_engine v (with_host v o) refl h.stand;
      once = once_same v (with_host v o) (h.once.calm live) h.once.distinct refl refl refl;
    }))

turn_stands : {v : World} {u : Url} {c : OutcomeView} {w : World} → stopped v ≡ None → Turn v u c w → Holds v → Holds w
turn_stands {v} {u} {c} {w} live p h = by p
  where
    now : Holds (fetched v u c)
    now = record {
      bodies = awaits_keep_bodies.fetches v u c h.bodies;
      stand = same_engine v (fetched v u c) refl h.stand;
      once = once_same v (fetched v u c) (h.once.calm live) h.once.distinct refl refl refl;
    }

    by : {w : World} → Turn v u c w → Holds w
    by (Turn.limit limit l) = now
    by (Turn.turn l rest) = tasks_stand rest now

runs_stand : (ds : List Delivery) (v w : World) → Holds v → Runs v ds w → Holds w
runs_stand [] v w h r = subst Holds (sym r) h
runs_stand (d ∷ ds) v w h r = runs_stand ds r.1 w (turn_stands (live_by (stopped v) (open_asks v.loading) d.url r.0.asked) r.2 h) r.3

pub runs_have_bodies : RunsHaveBodies
runs_have_bodies maps built entry trace ds w r =
    let first : Holds (opening maps built entry trace) = record {
      bodies = awaits_keep_bodies.opens maps built entry trace;
      stand = record { once = λ m. omega arith; unbegun = λ m n. refl };
      once = opening_once maps built entry trace;
    } in
    let last = runs_stand ds (opening maps built entry trace) w first r in
    record { bodies = last.bodies; once = last.stand.once }
