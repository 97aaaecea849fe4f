-- Each reaction to an await has its body, and each job a result: loading, bodies, evaluation and jobs keep it.
use Rattle.std.proofs.Common.{◌≡◌, ℕ, ◌+◌, ◌≤◌, Bool, true, false, cond, List, [], ◌∷◌, Option, Some, None, refl, ap, subst, sym, ◌∙◌, arith}
use Rattle.std.specs.Prelude.{Result, Ok, Err, slice_get, is_some}
use Rattle.esm_base.specs.declared.limits.Limit.{Limit}
use Rattle.esm_base.specs.Urls.{Url, same_url}
use Rattle.esm_values.specs.Value.{Value, Undefined, Truth, Text, Func, Error, Namespace, Promise}
use Rattle.esm_promise.specs.Promises.{Settled, Job, settle, settled, register, make, make_fulfilled, next_promise, next_job}
use Rattle.esm_promise.specs.Reactions.{Reaction, Await, BodyEnd, Loaded, Evaluated, EntryDone}
use Rattle.esm_ast.specs.Outcome.{OutcomeView}
use Rattle.esm_loads.specs.UrlTable.{TableEntry, Throw, New, Kept, thrown_by}
use Rattle.esm_loads.specs.Loading.{Loading, LoadState, Asked, Open, LoadComplete, Thrown, PendingRequest, Root, Request, Purpose, ForEntry, ForImport}
use Rattle.esm_loads.specs.Host.{Host, settle_by, begin_by, begin_load, with_loading, reject, Answered}
use Rattle.esm_loads.specs.Host.Answered.{late, answered}
use Rattle.esm_loads.specs.Arrival.{AnswersNext, count, bytes_of}
use Rattle.esm_loads.specs.ImportCall.{Imports, BeginsImport}
use Rattle.esm_loads.specs.ImportCall.Imports.{limit, unresolved, asks, answers}
use Rattle.esm_eval.specs.Nodes.{Call, CallAnswer}
use Rattle.esm_rewriting.specs.State.{Standing}
use Rattle.esm_rewriting.specs.Bodies.{Taken, await_on, take_standing}
use Rattle.esm_world.specs.World.{World, modules_in, host_of, with_host}
use Rattle.esm_world.specs.Layers.{CallsForBody, evaluation, with_linked}
use Rattle.esm_world.specs.Jobs.{EvaluatesLoad, Reacts, when_evaluated}
use Rattle.esm_world.specs.Jobs.Reacts.{entry_linked, entry_fault, entry_refused, entry_ended, entry_threw, linked, fault, refused, evaluated, threw, body_ended, body_threw, resumes}
use Rattle.esm_world.specs.Turn.{fetched}
use Rattle.esm_world.specs.Awaits.{awaits_among, awaits_of, standing_count, AreSettled, HaveStanding, AwaitsHaveBodies, AwaitsKeepBodies}
use Rattle.esm_world.proofs.AwaitCounts.{Queue, one, settle_count, register_count, make_count, fulfilled_count, next_count, standing_more, take_count, taken_is, takes_one, settle_jobs, register_jobs, make_jobs, fulfilled_jobs, next_jobs}
use Rattle.esm_world.proofs.OuterKeeps.{Around, LastsOuter, KeepsAround, CallEnds, EndsSo, starts_around, runs_around, resumes_around}
use Rattle.esm_world.proofs.FitLoading.{stored_promises}
use Rattle.esm_realm.proofs.Urls.{own_text}
use Rattle.esm_world.proofs.EvalKeeps.{Lasts, evaluates_keeps, fulfills_keeps, rejects_keeps}

-- no more reactions to an await, and jobs still have results
pub record KeepsAwaits (ps qs : Queue) : Type 0 where
  pub awaits : (m : Url) → awaits_of m qs ≤ awaits_of m ps
  pub jobs : AreSettled ps ps.jobs → AreSettled qs qs.jobs

kept : (ps : Queue) → KeepsAwaits ps ps
kept ps = record { awaits = λ m. omega arith; jobs = λ h. h }

on : {ps qs rs : Queue} → KeepsAwaits ps qs → KeepsAwaits qs rs → KeepsAwaits ps rs
on p q = record { awaits = λ m. let a = p.awaits m in let b = q.awaits m in omega (arith, a, b); jobs = λ h. q.jobs (p.jobs h) }

settle_keeps : (ps : Queue) (p : ℕ) (how : Settled (Value Url)) → KeepsAwaits ps (settle ps p how)
settle_keeps ps p how = record { awaits = λ m. let e = settle_count m ps p how in omega (arith, e); jobs = settle_jobs ps p how }

make_keeps : (ps : Queue) (rs : List (Reaction Url)) → ((m : Url) → awaits_among m rs ≡ 0) → KeepsAwaits ps (make ps rs)
make_keeps ps rs none = record { awaits = λ m. let e = make_count m ps rs in let f = none m in omega (arith, e, f); jobs = make_jobs ps rs }

register_keeps : (ps : Queue) (p : ℕ) (r : Reaction Url) → ((m : Url) → one m r ≡ 0) → KeepsAwaits ps (register ps p r)
register_keeps ps p r none = record { awaits = λ m. let e = register_count m ps p r in let f = none m in omega (arith, e, f); jobs = register_jobs ps p r }

-- ---- loading

reject_keeps : (o : Host) (q : ℕ) (t : Throw) → KeepsAwaits o.promises (reject o q t).promises
reject_keeps o q (New f) = settle_keeps o.promises q _
reject_keeps o q (Kept error) = settle_keeps o.promises q _

settle_load_keeps : (o : Host) (p : Option Purpose) (s : Option LoadState) → KeepsAwaits o.promises (settle_by o p s).promises
settle_load_keeps o None s = kept o.promises
settle_load_keeps o (Some p) None = kept o.promises
settle_load_keeps o (Some p) (Some Asked) = kept o.promises
settle_load_keeps o (Some p) (Some (Open root visited)) = kept o.promises
settle_load_keeps o (Some p) (Some (LoadComplete root)) = settle_keeps o.promises _ _
settle_load_keeps o (Some p) (Some (Thrown t)) = reject_keeps o _ t

begun_by : (o : Host) (s : ℕ) (t : Option Throw) (p : Option Purpose) → KeepsAwaits o.promises (begin_by o s t p).promises
begun_by o s None None = kept o.promises
begun_by o s None (Some (ForEntry q)) = kept o.promises
begun_by o s None (Some (ForImport q None)) = make_keeps o.promises (Loaded s ∷ []) (λ m. refl)
begun_by o s None (Some (ForImport q (Some load))) = kept o.promises
begun_by o s (Some t) p = kept o.promises

begun : (o : Host) (a : PendingRequest) (u : Url) (e : TableEntry) → KeepsAwaits o.promises (begin_load o a u e).promises
begun o (Root s) u e = begun_by o s (thrown_by u e) (slice_get o.imports.purposes s)
begun o (Request s x i) u e = kept o.promises

answered_keeps : {o after : Host} {a : PendingRequest} {u : Url} {e : TableEntry} → Answered o a u e after → KeepsAwaits o.promises after.promises
answered_keeps {o} (late q) = kept o.promises
answered_keeps {o} (answered {a = a} {u = u} {e = e} {l = l} q) = on (begun o a u e) (settle_load_keeps (with_loading (begin_load o a u e) l) _ _)

pub next_keeps : {o after : Host} → AnswersNext o after → KeepsAwaits o.promises after.promises
next_keeps p = answered_keeps p.answered

imports_keep : {o after : Host} {referrer : Url} {specifier : List ℕ} {promise : ℕ} → Imports o referrer specifier promise after → KeepsAwaits o.promises after.promises
imports_keep {o} (limit f) = kept o.promises
imports_keep {o} (unresolved f r q) = settle_keeps o.promises _ _
imports_keep {o} (asks u r q n) = kept o.promises
imports_keep (answers u e r q n a) = answered_keeps a

-- ---- bodies

abbrev KeepsHost : Host → Host → Type 0
KeepsHost o x = KeepsAwaits o.promises x.promises

lasts_outer : LastsOuter BeginsImport KeepsHost
lasts_outer = record {
  same = λ o. kept o.promises;
  on = λ p q. on p q;
  errors = λ o es. kept o.promises;
  refuses = λ o es v. on (make_keeps o.promises [] (λ m. refl)) (settle_keeps (make o.promises []) _ _);
  imports = λ o x m text r p. on (make_keeps o.promises [] (λ m. refl)) (imports_keep p.imports);
}

abbrev Holds : Around Url Loading → Type 0
Holds a = HaveStanding a.0.promises a.1

held : {ps qs : Queue} {ss : List (Standing Url)} → KeepsAwaits ps qs → HaveStanding ps ss → HaveStanding qs ss
held k h = record { bodies = λ m. let a = k.awaits m in let b = h.bodies m in omega (arith, a, b); jobs = k.jobs h.jobs }

around_holds : (v w : Around Url Loading) → KeepsAround KeepsHost v w → Holds v → Holds w
around_holds v w k h = subst (λ ss. HaveStanding w.0.promises ss) (sym k.standing) (held k.outer h)

-- a body that stands has its reaction
record Awaited (ps : Queue) (v : Value Url) (m : Url) : Type 0 where
  count : (x : Url) → awaits_of x (await_on ps v m) ≤ awaits_of x ps + cond (same_url m x) 1 0
  jobs : AreSettled ps ps.jobs → AreSettled (await_on ps v m) (await_on ps v m).jobs

awaited_new : (ps : Queue) (v : Value Url) (m x : Url) → awaits_of x (register (make_fulfilled ps v) (next_promise ps) (Await m)) ≤ awaits_of x ps + cond (same_url m x) 1 0
awaited_new ps v m x = let r = register_count x (make_fulfilled ps v) (next_promise ps) (Await m) in let f = fulfilled_count x ps v in omega (arith, r, f)

jobs_new : (ps : Queue) (v : Value Url) (m : Url) → AreSettled ps ps.jobs → AreSettled (register (make_fulfilled ps v) (next_promise ps) (Await m)) (register (make_fulfilled ps v) (next_promise ps) (Await m)).jobs
jobs_new ps v m h = register_jobs (make_fulfilled ps v) (next_promise ps) (Await m) (fulfilled_jobs ps v h)

awaited : (ps : Queue) (v : Value Url) (m : Url) → Awaited ps v m
awaited ps Undefined m = record { count = awaited_new ps Undefined m; jobs = jobs_new ps Undefined m }
awaited ps (Truth b) m = record { count = awaited_new ps (Truth b) m; jobs = jobs_new ps (Truth b) m }
awaited ps (Text t) m = record { count = awaited_new ps (Text t) m; jobs = jobs_new ps (Text t) m }
awaited ps (Func g i) m = record { count = awaited_new ps (Func g i) m; jobs = jobs_new ps (Func g i) m }
awaited ps (Error id) m = record { count = awaited_new ps (Error id) m; jobs = jobs_new ps (Error id) m }
awaited ps (Namespace g) m = record { count = awaited_new ps (Namespace g) m; jobs = jobs_new ps (Namespace g) m }
awaited ps (Promise p) m = record { count = λ x. register_count x ps p (Await m); jobs = register_jobs ps p (Await m) }

ends_hold : {m : Url} {done : ℕ} {mid w : Around Url Loading} → EndsSo m done mid w → Holds mid → Holds w
ends_hold EndsSo.stays h = h
ends_hold {done = done} {mid = mid} (EndsSo.settled how) h = held (settle_keeps mid.0.promises done how) h
ends_hold {m} {done} {mid} (EndsSo.stands v rest) h =
    let a = awaited mid.0.promises v m in
    record {
      bodies = λ x.
          let b = h.bodies x in
          let c = a.count x in
          let s = standing_more x mid.1 (record { at = m; done = done; rest = rest } ∷ []) in
          omega (arith, b, c, s);
      jobs = a.jobs h.jobs;
    }

call_holds : {m : Url} {done : ℕ} {v w : Around Url Loading} → CallEnds KeepsHost m done v w → Holds v → Holds w
call_holds {v = v} c h = ends_hold c.ends (around_holds v c.late c.keeps h)

-- ---- evaluation

abbrev KeepsWorld : World → World → Type 0
KeepsWorld v w = AwaitsHaveBodies v → AwaitsHaveBodies w

executes_keeps : {v w : World} {c : Call Url} {r : Result (CallAnswer (Value Url) c) Limit} → CallsForBody v c r w → KeepsWorld v w
executes_keeps (CallsForBody.start p) h = call_holds (starts_around same_url modules_in BeginsImport KeepsHost lasts_outer p) h
executes_keeps {v} (CallsForBody.run {s = s} p) h = around_holds (host_of v, v.engine.standing) (s.outer, s.engine.standing) (runs_around same_url modules_in BeginsImport KeepsHost lasts_outer p) h

lasts : Lasts evaluation CallsForBody KeepsWorld
lasts = record {
  same = λ w h. h;
  on = λ p q h. q (p h);
  put = λ w x n h. h;
  stamp = λ w x h. h;
  make = λ w h. held (make_keeps w.promises [] (λ m. refl)) h;
  make_body = λ w x h. held (make_keeps w.promises (BodyEnd x ∷ []) (λ m. refl)) h;
  fulfill = λ w p h. held (settle_keeps w.promises p _) h;
  reject = λ w p v h. held (settle_keeps w.promises p _) h;
  call = λ p. executes_keeps p;
}

-- ---- jobs

-- the same, where a job with this reaction runs
pub record HaveStandingBut (r : Reaction Url) (ps : Queue) (standing : List (Standing Url)) : Type 0 where
  pub bodies : (m : Url) → one m r + awaits_of m ps ≤ standing_count m standing
  pub jobs : AreSettled ps ps.jobs

without : {r : Reaction Url} {ps : Queue} {ss : List (Standing Url)} → HaveStandingBut r ps ss → HaveStanding ps ss
without h = record { bodies = λ m. let b = h.bodies m in omega (arith, b); jobs = h.jobs }

-- a job is taken: it has a result
pub job_taken : (ps left : Queue) (ss : List (Standing Url)) (j : Job (Reaction Url)) → next_job ps ≡ Some (j, left) → HaveStanding ps ss
    → (is_some (settled left j.promise) ≡ true) × HaveStandingBut j.reaction left ss
job_taken ps left ss j e h =
    let k = next_jobs ps left j e h.jobs in
    (k.0, record { bodies = λ m. let c = next_count m ps left j e in let b = h.bodies m in omega (arith, c, b); jobs = k.1 })

registers : (w : World) (r : Reaction Url) (a : Result ℕ Limit) → ((m : Url) → one m r ≡ 0) → AwaitsHaveBodies w → AwaitsHaveBodies (when_evaluated w r a)
registers w r (Ok p) none h = held (register_keeps w.promises p r none) h
registers w r (Err why) none h = h

load_keeps : {v w : World} {s : ℕ} {a : Result ℕ Limit} → EvaluatesLoad v s a w → (r : Reaction Url) → ((m : Url) → one m r ≡ 0) → AwaitsHaveBodies v → AwaitsHaveBodies (when_evaluated w r a)
load_keeps {v} {w} {a = a} p r none h = registers w r a none (evaluates_keeps evaluation CallsForBody KeepsWorld lasts (with_linked v p.linked) p.root p.evaluates h)

resumed : (m : Url) (ps : Queue) (ss : List (Standing Url)) (t : Taken Url) → take_standing same_url ss m ≡ Some t → HaveStandingBut (Await m) ps ss → HaveStanding ps t.others
resumed m ps ss t e h = record {
  bodies = λ x.
      let b = h.bodies x in
      let c = take_count x ss m t e in
      let same : ◌≡◌ {A = ℕ} (cond (same_url t.standing.at x) 1 0) (cond (same_url m x) 1 0) = ap (λ y. one x (Await y)) (taken_is ss m t e) in
      omega (arith, b, c, same);
  jobs = h.jobs;
}

pub reacts_keep : {v : World} {r : Reaction Url} {how : Settled (Value Url)} {w : World} → Reacts v r how w → HaveStandingBut r v.promises v.engine.standing → AwaitsHaveBodies w
reacts_keep (entry_linked p) h = load_keeps p EntryDone (λ m. refl) (without h)
reacts_keep (entry_fault root f ls l) h = without h
reacts_keep entry_refused h = without h
reacts_keep entry_ended h = without h
reacts_keep entry_threw h = without h
reacts_keep (linked {s = s} p) h = load_keeps p (Evaluated s) (λ m. refl) (without h)
reacts_keep {v} (fault p root f ls n l) h = held (settle_keeps v.promises p _) (without h)
reacts_keep {v} (refused p n) h = held (settle_keeps v.promises p _) (without h)
reacts_keep {v} (evaluated p root n o) h = held (settle_keeps v.promises p _) (without h)
reacts_keep {v} (threw p n) h = held (settle_keeps v.promises p _) (without h)
reacts_keep (body_ended p) h = fulfills_keeps evaluation CallsForBody KeepsWorld lasts p (without h)
reacts_keep (body_threw p) h = rejects_keeps evaluation CallsForBody KeepsWorld lasts p (without h)
reacts_keep {v} (resumes {m = m} p) h = call_holds (resumes_around same_url modules_in BeginsImport KeepsHost lasts_outer p) (resumed m v.promises v.engine.standing p.taken p.stands h)

-- an answer to a pending request
pub answer_keeps : (w : World) (h : Host) → AnswersNext (host_of w) h → AwaitsHaveBodies w → AwaitsHaveBodies (with_host w h)
answer_keeps w h p k = held (next_keeps p) k

-- the end of a fetch leaves promises as they are
pub fetch_keeps : (w : World) (u : Url) (c : OutcomeView) → AwaitsHaveBodies w → AwaitsHaveBodies (fetched w u c)
fetch_keeps w u c h = subst (λ ps. HaveStanding ps w.engine.standing) (sym (stored_promises _ (record (host_of w) { imports = count w.loading (bytes_of c) }) u c)) h

some_how : (o : Option (Settled (Value Url))) → is_some o ≡ true → (how : Settled (Value Url)) × (o ≡ Some how)
some_how None h = absurd (let e : false ≡ true = h in cc)
some_how (Some how) h = (how, refl)

abbrev once : Bool → ℕ
once b = cond b 1 0

-- where a job lets a body go on, the body is there
pub body_there : (ps left : Queue) (ss : List (Standing Url)) (j : Job (Reaction Url)) (m : Url) → next_job ps ≡ Some (j, left) → HaveStanding ps ss → j.reaction ≡ Await m
    → (t : Taken Url) × (take_standing same_url ss m ≡ Some t)
body_there ps left ss j m e h r =
    let b = (job_taken ps left ss j e h).1.bodies m in
    let o : ◌≡◌ {A = ℕ} (one m j.reaction) 1 = ap (one m) r ∙ ap once (own_text m) in
    takes_one ss m (omega (arith, b, o))

pub awaits_keep_bodies : AwaitsKeepBodies
awaits_keep_bodies = record {
  opens = λ maps built entry trace. record { bodies = λ m. omega arith; jobs = tt };
  fetches = fetch_keeps;
  answers = λ w h k p. answer_keeps w h p k;
  result = λ w j left h e. some_how (settled left j.promise) (job_taken w.promises left w.engine.standing j e h).0;
  body = λ w j left m h e r. body_there w.promises left w.engine.standing j m e h r;
  reacts = λ w after j left how h e p. reacts_keep p (job_taken w.promises left w.engine.standing j e h).1;
}
