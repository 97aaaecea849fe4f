-- The root of a load is linked where a reaction to its evaluation stands: loading, bodies, evaluation and jobs keep it.
use Rattle.std.proofs.Common.{◌≡◌, ℕ, zero, suc, true, List, [], ◌∷◌, ◌++◌, map, Option, Some, None, refl, ap, subst, sym, ◌∙◌}
use Rattle.std.specs.Prelude.{Result, Ok, Err, slice_get, ⊤}
use Rattle.std.specs.List.{AllByRecursion}
use Rattle.esm_base.specs.declared.limits.Limit.{Limit}
use Rattle.esm_base.specs.Urls.{Url, has, same_url}
use Rattle.esm_ast.specs.Outcome.{OutcomeView}
use Rattle.esm_values.specs.Value.{Value, Undefined, Truth, Text, Func, Error, Namespace, Promise}
use Rattle.esm_promise.specs.Promises as p
use Rattle.esm_promise.specs.Promises.{Pending, Done, Promises, Settled, Fulfilled, Rejected, Job, job, settle, triggered, register, register_by, make, make_fulfilled, next_promise, next_job, first_job}
use Rattle.esm_promise.specs.Reactions.{Reaction, Await, BodyEnd, Loaded, Evaluated, EntryLoaded, EntryDone}
use Rattle.esm_loads.specs.UrlTable.{TableEntry, Throw, New, Kept, thrown_by}
use Rattle.esm_loads.specs.Loading.{Loading, LoadState, Asked, Open, LoadComplete, Thrown, PendingRequest, Root, Request, Purpose, ForEntry, ForImport, root_of_load}
use Rattle.esm_loads.specs.Host.{Host, settle_by, begin_by, begin_load, with_loading, reject, Answered}
use Rattle.esm_loads.specs.Host.Answered.{late, answered}
use Rattle.esm_loads.specs.Arrival.{AnswersNext, count, bytes_of}
use Rattle.esm_loads.specs.ImportCall.{Imports, BeginsImport}
use Rattle.esm_loads.specs.ImportCall.Imports.{limit, unresolved, asks, answers}
use Rattle.esm_eval.specs.Nodes.{Call, CallAnswer}
use Rattle.esm_rewriting.specs.Bodies.{await_on}
use Rattle.esm_world.specs.World.{World, modules_in, host_of, with_host}
use Rattle.esm_world.specs.Layers.{CallsForBody, evaluation, with_linked}
use Rattle.esm_world.specs.Jobs.{EvaluatesLoad, Reacts, when_evaluated}
use Rattle.esm_world.specs.Jobs.Reacts.{entry_linked, entry_fault, entry_refused, entry_ended, entry_threw, linked, fault, refused, evaluated, threw, body_ended, body_threw, resumes}
use Rattle.esm_world.specs.Turn.{fetched}
use Rattle.esm_world.specs.Sound as sound
use Rattle.esm_world.specs.Sound.{Own, EvaluatedAreLinked}
use Rattle.esm_world.proofs.Each.{pushed, joined, put, all_on}
use Rattle.esm_world.proofs.OuterKeeps.{Around, LastsOuter, CallEnds, EndsSo, starts_around, runs_around, resumes_around}
use Rattle.esm_world.proofs.EvalKeeps.{Lasts, evaluates_keeps, fulfills_keeps, rejects_keeps}
use Rattle.esm_world.proofs.LoadedFits.{linked_stays_linked}
use Rattle.esm_world.proofs.FitLoading.{stored_promises}

abbrev Queue : Type 0
Queue = Promises (Reaction Url) (Value Url)

abbrev Row : Type 0
Row = p.Promise (Reaction Url) (Value Url)

-- ---- reactions to evaluations

-- the load of a reaction to an evaluation is such
module _ (Q : ℕ → Type 0) where
  abbrev OfLoad : Reaction Url → Type 0
  OfLoad = sound.OfLoad Q

  abbrev OnPromise : Row → Type 0
  OnPromise = sound.OnPromise Q

  abbrev InJob : Job (Reaction Url) → Type 0
  InJob = sound.InJob Q

  abbrev LoadsAre : Queue → Type 0
  LoadsAre = sound.LoadsAre Q

  abbrev At : Option Row → Type 0
  At None = ⊤
  At (Some x) = OnPromise x

  got : (xs : List Row) (i : ℕ) → AllByRecursion OnPromise xs → At (slice_get xs i)
  got [] i h = tt
  got (x ∷ xs) zero h = h.0
  got (x ∷ xs) (suc i) h = got xs i h.1

  jobs_of : (q : ℕ) (rs : List (Reaction Url)) → AllByRecursion OfLoad rs → AllByRecursion InJob (map (job q) rs)
  jobs_of q [] h = tt
  jobs_of q (r ∷ rs) h = (h.0, jobs_of q rs h.1)

  trigger : (q : ℕ) (o : Option Row) → At o → AllByRecursion InJob (triggered q o)
  trigger q None h = tt
  trigger q (Some (Pending rs)) h = jobs_of q rs h
  trigger q (Some (Done how)) h = tt

  made : (ps : Queue) (rs : List (Reaction Url)) → AllByRecursion OfLoad rs → LoadsAre ps → LoadsAre (make ps rs)
  made ps rs r h = record { all = pushed OnPromise ps.all (Pending rs) h.all r; jobs = h.jobs }

  made_done : (ps : Queue) (v : Value Url) → LoadsAre ps → LoadsAre (make_fulfilled ps v)
  made_done ps v h = record { all = pushed OnPromise ps.all (Done (Fulfilled v)) h.all tt; jobs = h.jobs }

  settled : (ps : Queue) (q : ℕ) (how : Settled (Value Url)) → LoadsAre ps → LoadsAre (settle ps q how)
  settled ps q how h = record {
    all = put OnPromise ps.all q (Done how) h.all tt;
    jobs = joined InJob ps.jobs (triggered q (slice_get ps.all q)) h.jobs (trigger q (slice_get ps.all q) (got ps.all q h.all));
  }

  registered_by : (o : Option Row) (ps : Queue) (q : ℕ) (r : Reaction Url) → At o → OfLoad r → LoadsAre ps → LoadsAre (register_by o ps q r)
  registered_by None ps q r a k h = h
  registered_by (Some (Pending rs)) ps q r a k h = record { all = put OnPromise ps.all q (Pending (rs ++ r ∷ [])) h.all (pushed OfLoad rs r a k); jobs = h.jobs }
  registered_by (Some (Done how)) ps q r a k h = record { all = h.all; jobs = pushed InJob ps.jobs (job q r) h.jobs k }

  registered : (ps : Queue) (q : ℕ) (r : Reaction Url) → OfLoad r → LoadsAre ps → LoadsAre (register ps q r)
  registered ps q r k h = registered_by (slice_get ps.all q) ps q r (got ps.all q h.all) k h

  awaited : (ps : Queue) (v : Value Url) (m : Url) → LoadsAre ps → LoadsAre (await_on ps v m)
  awaited ps Undefined m h = registered (make_fulfilled ps Undefined) (next_promise ps) (Await m) tt (made_done ps Undefined h)
  awaited ps (Truth b) m h = registered (make_fulfilled ps (Truth b)) (next_promise ps) (Await m) tt (made_done ps (Truth b) h)
  awaited ps (Text t) m h = registered (make_fulfilled ps (Text t)) (next_promise ps) (Await m) tt (made_done ps (Text t) h)
  awaited ps (Func g i) m h = registered (make_fulfilled ps (Func g i)) (next_promise ps) (Await m) tt (made_done ps (Func g i) h)
  awaited ps (Error id) m h = registered (make_fulfilled ps (Error id)) (next_promise ps) (Await m) tt (made_done ps (Error id) h)
  awaited ps (Namespace g) m h = registered (make_fulfilled ps (Namespace g)) (next_promise ps) (Await m) tt (made_done ps (Namespace g) h)
  awaited ps (Promise id) m h = registered ps id (Await m) tt h

  -- the job that is taken, and those that are left
  pub job_taken : (ps left : Queue) (j : Job (Reaction Url)) → next_job ps ≡ Some (j, left) → LoadsAre ps → OfLoad j.reaction × LoadsAre left
  job_taken ps left j e h = by ps.jobs e h.jobs
    where
      by : (js : List (Job (Reaction Url))) → first_job js ps ≡ Some (j, left) → AllByRecursion InJob js → OfLoad j.reaction × LoadsAre left
      by [] e k = cc
      by (x ∷ xs) e k =
          let now : Queue = record ps { jobs = xs } in
          let same : (x, now) ≡ (j, left) = cc in
          let fine : OfLoad x.reaction × LoadsAre now = (k.0, record { all = h.all; jobs = k.1 }) in
          subst (λ (t : Job (Reaction Url) × Queue). OfLoad t.0.reaction × LoadsAre t.1) same fine

  -- ---- loading

  reject_keeps : (o : Host) (q : ℕ) (t : Throw) → LoadsAre o.promises → LoadsAre (reject o q t).promises
  reject_keeps o q (New f) h = settled o.promises q _ h
  reject_keeps o q (Kept error) h = settled o.promises q _ h

  settle_keeps : (o : Host) (q : Option Purpose) (s : Option LoadState) → LoadsAre o.promises → LoadsAre (settle_by o q s).promises
  settle_keeps o None s h = h
  settle_keeps o (Some q) None h = h
  settle_keeps o (Some q) (Some Asked) h = h
  settle_keeps o (Some q) (Some (Open root visited)) h = h
  settle_keeps o (Some q) (Some (LoadComplete root)) h = settled o.promises _ _ h
  settle_keeps o (Some q) (Some (Thrown t)) h = reject_keeps o _ t h

  begun_by : (o : Host) (s : ℕ) (t : Option Throw) (q : Option Purpose) → LoadsAre o.promises → LoadsAre (begin_by o s t q).promises
  begun_by o s None None h = h
  begun_by o s None (Some (ForEntry q)) h = h
  begun_by o s None (Some (ForImport q None)) h = made o.promises (Loaded s ∷ []) (tt, tt) h
  begun_by o s None (Some (ForImport q (Some load))) h = h
  begun_by o s (Some t) q h = h

  begun : (o : Host) (a : PendingRequest) (u : Url) (e : TableEntry) → LoadsAre o.promises → LoadsAre (begin_load o a u e).promises
  begun o (Root s) u e h = begun_by o s (thrown_by u e) (slice_get o.imports.purposes s) h
  begun o (Request s x i) u e h = h

  answered_keeps : {o after : Host} {a : PendingRequest} {u : Url} {e : TableEntry} → Answered o a u e after → LoadsAre o.promises → LoadsAre after.promises
  answered_keeps (late q) h = h
  answered_keeps {o} (answered {a = a} {u = u} {e = e} {l = l} q) h = settle_keeps (with_loading (begin_load o a u e) l) _ _ (begun o a u e h)

  imports_keep : {o after : Host} {referrer : Url} {specifier : List ℕ} {promise : ℕ} → Imports o referrer specifier promise after → LoadsAre o.promises → LoadsAre after.promises
  imports_keep (limit f) h = h
  imports_keep {o} (unresolved f r q) h = settled o.promises _ _ h
  imports_keep (asks u r q n) h = h
  imports_keep (answers u e r q n a) h = answered_keeps a h

  -- ---- bodies

  abbrev KeepsHost : Host → Host → Type 0
  KeepsHost o x = LoadsAre o.promises → LoadsAre x.promises

  lasts_outer : LastsOuter BeginsImport KeepsHost
  lasts_outer = record {
    same = λ o h. h;
    on = λ f g h. g (f h);
    errors = λ o es h. h;
    refuses = λ o es v h. settled (make o.promises []) _ _ (made o.promises [] tt h);
    imports = λ o x m text r f h. imports_keep f.imports (made o.promises [] tt h);
  }

  ends_keep : {m : Url} {done : ℕ} {mid w : Around Url Loading} → EndsSo m done mid w → LoadsAre mid.0.promises → LoadsAre w.0.promises
  ends_keep EndsSo.stays h = h
  ends_keep {done = done} {mid = mid} (EndsSo.settled how) h = settled mid.0.promises done how h
  ends_keep {m} {mid = mid} (EndsSo.stands v rest) h = awaited mid.0.promises v m h

  call_keeps : {m : Url} {done : ℕ} {v w : Around Url Loading} → CallEnds KeepsHost m done v w → LoadsAre v.0.promises → LoadsAre w.0.promises
  call_keeps c h = ends_keep c.ends (c.keeps.outer h)

  -- ---- evaluation

  -- the same modules are linked
  record KeepsWorld (v w : World) : Type 0 where
    loads : LoadsAre v.promises → LoadsAre w.promises
    linked : w.linked ≡ v.linked

  executes_keeps : {v w : World} {c : Call Url} {r : Result (CallAnswer (Value Url) c) Limit} → CallsForBody v c r w → KeepsWorld v w
  executes_keeps (CallsForBody.start f) = record { loads = λ h. call_keeps (starts_around same_url modules_in BeginsImport KeepsHost lasts_outer f) h; linked = refl }
  executes_keeps (CallsForBody.run f) = record { loads = λ h. (runs_around same_url modules_in BeginsImport KeepsHost lasts_outer f).outer h; linked = refl }

  lasts : Lasts evaluation CallsForBody KeepsWorld
  lasts = record {
    same = λ w. record { loads = λ h. h; linked = refl };
    on = λ f g. record { loads = λ h. g.loads (f.loads h); linked = g.linked ∙ f.linked };
    put = λ w x n. record { loads = λ h. h; linked = refl };
    stamp = λ w x. record { loads = λ h. h; linked = refl };
    make = λ w. record { loads = λ h. made w.promises [] tt h; linked = refl };
    make_body = λ w x. record { loads = λ h. made w.promises (BodyEnd x ∷ []) (tt, tt) h; linked = refl };
    fulfill = λ w q. record { loads = λ h. settled w.promises q _ h; linked = refl };
    reject = λ w q v. record { loads = λ h. settled w.promises q _ h; linked = refl };
    call = λ f. executes_keeps f;
  }

  -- ---- jobs

  evaluated_keeps : {v w : World} {s : ℕ} {a : Result ℕ Limit} (f : EvaluatesLoad v s a w) → KeepsWorld (with_linked v f.linked) w
  evaluated_keeps {v} f = evaluates_keeps evaluation CallsForBody KeepsWorld lasts (with_linked v f.linked) f.root f.evaluates

  registers : (w : World) (r : Reaction Url) (a : Result ℕ Limit) → OfLoad r → LoadsAre w.promises → LoadsAre (when_evaluated w r a).promises
  registers w r (Ok q) k h = registered w.promises q r k h
  registers w r (Err why) k h = h

  -- whether the root of the load is linked where it was evaluated
  abbrev IsNewIn : {v : World} {r : Reaction Url} {how : Settled (Value Url)} {w : World} → Reacts v r how w → Type 0
  IsNewIn (linked {s = s} f) = Q s
  IsNewIn _ = ⊤

  reacts_keep : {v : World} {r : Reaction Url} {how : Settled (Value Url)} {w : World} (f : Reacts v r how w) → IsNewIn f → LoadsAre v.promises → LoadsAre w.promises
  reacts_keep (entry_linked {after = after} {answer = a} f) n h = registers after EntryDone a tt ((evaluated_keeps f).loads h)
  reacts_keep (entry_fault root x ls l) n h = h
  reacts_keep entry_refused n h = h
  reacts_keep entry_ended n h = h
  reacts_keep entry_threw n h = h
  reacts_keep (linked {after = after} {s = s} {answer = a} f) n h = registers after (Evaluated s) a n ((evaluated_keeps f).loads h)
  reacts_keep {v} (fault q root x ls e l) n h = settled v.promises q _ h
  reacts_keep {v} (refused q e) n h = settled v.promises q _ h
  reacts_keep {v} (evaluated q root e o) n h = settled v.promises q _ h
  reacts_keep {v} (threw q e) n h = settled v.promises q _ h
  reacts_keep (body_ended f) n h = (fulfills_keeps evaluation CallsForBody KeepsWorld lasts f).loads h
  reacts_keep (body_threw f) n h = (rejects_keeps evaluation CallsForBody KeepsWorld lasts f).loads h
  reacts_keep (resumes f) n h = call_keeps (resumes_around same_url modules_in BeginsImport KeepsHost lasts_outer f) h

-- ---- linked roots

of_more : (P Q : ℕ → Type 0) → ((s : ℕ) → P s → Q s) → (r : Reaction Url) → OfLoad P r → OfLoad Q r
of_more P Q f (Await m) k = tt
of_more P Q f (BodyEnd m) k = tt
of_more P Q f (Loaded s) k = tt
of_more P Q f (Evaluated s) k = f s k
of_more P Q f EntryLoaded k = tt
of_more P Q f EntryDone k = tt

on_more : (P Q : ℕ → Type 0) → ((s : ℕ) → P s → Q s) → (x : Row) → OnPromise P x → OnPromise Q x
on_more P Q f (Pending rs) k = all_on (OfLoad P) (OfLoad Q) rs (of_more P Q f) k
on_more P Q f (Done how) k = tt

loads_more : (P Q : ℕ → Type 0) → ((s : ℕ) → P s → Q s) → (ps : Queue) → LoadsAre P ps → LoadsAre Q ps
loads_more P Q f ps h = record { all = all_on (OnPromise P) (OnPromise Q) ps.all (on_more P Q f) h.all; jobs = all_on (InJob P) (InJob Q) ps.jobs (λ j. of_more P Q f j.reaction) h.jobs }

-- roots stay, and what is linked stays so
pub record RootsStay (v w : World) : Type 0 where
  pub roots : (s : ℕ) (root : Url) → root_of_load v.loading s ≡ Some root → root_of_load w.loading s ≡ Some root
  pub linked : (u : Url) → has v.linked u ≡ true → has w.linked u ≡ true

still_linked : (v w : World) → RootsStay v w → (s : ℕ) → Own v s → Own w s
still_linked v w k s h = record { root = h.root; is_root = k.roots s h.root h.is_root; linked = k.linked h.root h.linked }

-- what a job leaves
pub reacts_linked : (v w : World) (r : Reaction Url) (how : Settled (Value Url)) → Reacts v r how w → RootsStay v w → EvaluatedAreLinked v → EvaluatedAreLinked w
reacts_linked v w r how f k h = reacts_keep (Own w) f (new f k) (loads_more (Own v) (Own w) (still_linked v w k) v.promises h)
  where
    by_answer : (w : World) (r : Reaction Url) (a : Result ℕ Limit) → (when_evaluated w r a).linked ≡ w.linked
    by_answer w r (Ok q) = refl
    by_answer w r (Err why) = refl

    new : {v w : World} {r : Reaction Url} {how : Settled (Value Url)} (f : Reacts v r how w) → RootsStay v w → IsNewIn (Own w) f
    new (entry_linked f) k = tt
    new (entry_fault root x ls l) k = tt
    new entry_refused k = tt
    new entry_ended k = tt
    new entry_threw k = tt
    new {v} (linked {after = after} {s = s} {answer = a} f) k = record {
      root = f.root;
      is_root = k.roots s f.root f.links.is_root;
      linked = ap (λ us. has us f.root) (by_answer after (Evaluated s) a ∙ (evaluated_keeps (λ n. ⊤) f).linked) ∙ linked_stays_linked.root v.loading v.linked f.linked f.root f.links.links;
    }
    new (fault q root x ls e l) k = tt
    new (refused q e) k = tt
    new (evaluated q root e o) k = tt
    new (threw q e) k = tt
    new (body_ended f) k = tt
    new (body_threw f) k = tt
    new (resumes f) k = tt

-- an answer to a pending request
pub answer_linked : (w : World) (o : Host) → AnswersNext (host_of w) o → RootsStay w (with_host w o) → EvaluatedAreLinked w → EvaluatedAreLinked (with_host w o)
answer_linked w o a k h = answered_keeps (Own (with_host w o)) a.answered (loads_more (Own w) (Own (with_host w o)) (still_linked w (with_host w o) k) w.promises h)

-- the end of a fetch
pub fetch_linked : (w : World) (u : Url) (c : OutcomeView) → RootsStay w (fetched w u c) → EvaluatedAreLinked w → EvaluatedAreLinked (fetched w u c)
fetch_linked w u c k h =
    subst (λ ps. LoadsAre (Own (fetched w u c)) ps) (sym (stored_promises _ (record (host_of w) { imports = count w.loading (bytes_of c) }) u c))
    (loads_more (Own w) (Own (fetched w u c)) (still_linked w (fetched w u c) k) w.promises h)
