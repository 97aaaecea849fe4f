-- No import() is forgotten: what follows of each goes on in each step of a world.
use Rattle.std.proofs.Common.{◌≡◌, ◌⊎◌, inl, inr, ℕ, zero, suc, ◌+◌, Bool, true, false, List, [], ◌∷◌, Option, Some, None, Contains, refl, ap, subst, sym, ◌∙◌}
use Rattle.std.specs.Prelude.{slice_get, Result, Ok, Err, nat_lt, is_some}
use Rattle.std.specs.List.{AllByRecursion}
use Rattle.std.specs.Option.{option_or}
use Rattle.esm_tree.specs.Syntax.{Item}
use Rattle.esm_base.specs.declared.limits.Limit.{Limit}
use Rattle.esm_base.specs.declared.limits.TheConstants.{MAX_DELIVERED_BYTES}
use Rattle.esm_base.specs.Urls as urls
use Rattle.esm_base.specs.Urls.{Url, has, same_url}
use Rattle.esm_ast.specs.Deliveries.{Delivery, asks_by}
use Rattle.esm_ast.specs.Outcome.{OutcomeView}
use Rattle.esm_import_map.specs.ImportMap.{Maps}
use Rattle.esm_values.specs.Value.{Value, Undefined}
use Rattle.esm_promise.specs.Promises.{Settled, Fulfilled, Rejected, Pending, Job, make, settle, settled, settled_by, register, next_promise, next_job, first_job}
use Rattle.esm_promise.specs.Reactions.{Reaction, Await, BodyEnd, Loaded, Evaluated, EntryLoaded, EntryDone}
use Rattle.esm_loads.specs.Loading.{Loading, LoadState, Asked, Purpose, ForEntry, ForImport, import_promise, import_promise_in}
use Rattle.esm_loads.specs.Host.{Host, opening_host}
use Rattle.esm_loads.specs.Arrival.{bytes_of, open_asks}
use Rattle.esm_loads.specs.ImportCall.{BeginsImport, add_load, counted}
use Rattle.esm_loads.specs.Whole.{HasEnded}
use Rattle.esm_loads.proofs.Requests.{contains_none, contains_cases, equal_cases}
use Rattle.esm_eval.specs.Nodes.{Call, CallAnswer}
use Rattle.esm_rewriting.specs.State.{Standing}
use Rattle.esm_world.specs.World.{World, opening, stopped, host_of, modules_in}
use Rattle.esm_world.specs.Layers.{CallsForBody, evaluation, with_linked}
use Rattle.esm_world.specs.Jobs.{EvaluatesLoad, Reacts, Jobs, when_evaluated}
use Rattle.esm_world.specs.Jobs.Reacts.{entry_linked, entry_fault, entry_refused, entry_ended, entry_threw, linked, fault, refused, evaluated, threw, body_ended, body_threw, resumes}
use Rattle.esm_world.specs.Turn.{Tasks, Turn, fetched}
use Rattle.esm_world.specs.Run.{Runs}
use Rattle.esm_world.specs.Told.{OfImport, Own, own_promise_in, load_promise, MayStandOn, AreToldOf, IsHostTold, AreTold}
use Rattle.esm_world.specs.Followed.{IsSettled, HasGoneOn, ImportsGoOn}
use Rattle.esm_world.proofs.OuterKeeps.{LastsOuter, Around, around, EndsSo, KeepsAround, CallEnds, makes, starts_around, runs_around, resumes_around}
use Rattle.esm_world.proofs.EvalHolds.{Holding, evaluates_holds, evaluates_free, fulfills_holds, rejects_holds}
use Rattle.esm_world.proofs.StartsOnce.{IsStopped, stops_call, none_stopped}
use Rattle.esm_world.proofs.EvalStops.{evaluates_stop}
use Rattle.esm_world.proofs.ToldPromises.{Ps, some_is}
use Rattle.esm_world.proofs.ToldLoading.{KeptBut, added_kept, next_free}
use Rattle.esm_world.proofs.ToldHost.{KeptHost, host_on, lasts_told, host_makes}
use Rattle.esm_world.proofs.ToldWorld.{FreeIn, KeptWorld, holding, taken_told, linked_told, job_kept, answers, fetches, opens, fetched_same}
use Rattle.esm_world.proofs.FollowedPromises.{IsWaiting, goes_on, push_goes, settle_goes, settled_own, register_goes, registered_waits, await_goes, taken_waits, taken_settled}
use Rattle.esm_world.proofs.FollowedLoading.{IsFollowed, F, goes_followed, same_followed, next_followed, imports_followed}
use Rattle.esm_world.proofs.RunsIdle.{turns_leave_nothing}

module _ (out : Option ℕ) where
  abbrev FH : Host → Type 0
  FH h = F out h.imports h.promises

  abbrev FW : World → Type 0
  FW w = F out w.loading w.promises

  -- ---- bodies

  record KeptBoth (h k : Host) : Type 0 where
    kept : KeptHost h k
    followed : FH h → FH k

  abbrev KeepsBoth : Host → Host → Type 0
  KeepsBoth h k = IsHostTold h → KeptBoth h k

  imports_both : (h k : Host) (m : Url) (text : urls.Text) (r : Result (Unit {0}) Limit) → BeginsImport (makes h) m text (next_promise h.promises) r k → KeepsBoth h k
  imports_both h k m text r q t = record {
    kept = lasts_told.imports h k m text r q t;
    followed = λ f. imports_followed out a.told.orderly a.told.owes.sizes added.told (goes_followed out h.imports (push_goes h.promises (Pending [])) f) q.imports;
  }
    where
      a : KeptHost h (makes h)
      a = host_makes h t

      added : KeptBut (next_promise h.promises) h.imports (makes h).promises (add_load (counted (makes h)) (next_promise h.promises)).imports (makes h).promises
      added = added_kept (makes h) (next_promise h.promises) a.told.owes.sizes a.told.told (next_free h.imports h.promises [] t.told)

  lasts_both : LastsOuter BeginsImport KeepsBoth
  lasts_both = record {
    same = λ h t. record { kept = lasts_told.same h t; followed = λ f. f };
    on = λ a b t. let k = a t in let j = b k.kept.told in record { kept = host_on k.kept j.kept; followed = λ f. j.followed (k.followed f) };
    errors = λ h es t. record { kept = lasts_told.errors h es t; followed = λ f. f };
    refuses = λ h es v t. record { kept = lasts_told.refuses h es v t; followed = λ f. goes_followed out h.imports (goes_on (push_goes h.promises (Pending [])) (settle_goes (make h.promises []) (next_promise h.promises) (Rejected v))) f };
    imports = imports_both;
  }

  segment_both : (h : Host) (ss : List (Standing Url)) (late : Around Url Loading) → IsHostTold h → KeepsAround KeepsBoth (h, ss) late → FH h → FH late.0
  segment_both h ss late t k f = (k.outer t).followed f

  ends_both : (m : Url) (done : ℕ) (late w : Around Url Loading) → EndsSo m done late w → FH late.0 → FH w.0
  ends_both m done late w EndsSo.stays f = f
  ends_both m done late w (EndsSo.settled how) f = goes_followed out late.0.imports (settle_goes late.0.promises done how) f
  ends_both m done late w (EndsSo.stands v rest) f = goes_followed out late.0.imports (await_goes late.0.promises v m) f

  call_both : (h : Host) (ss : List (Standing Url)) (m : Url) (done : ℕ) (w : Around Url Loading) → IsHostTold h → CallEnds KeepsBoth m done (h, ss) w → FH h → FH w.0
  call_both h ss m done w t c f = ends_both m done c.late w c.ends (segment_both h ss c.late t c.keeps f)

  calls_both : {v w : World} {c : Call Url} {r : Result (CallAnswer (Value Url) c) Limit} → AreTold v → CallsForBody v c r w → FW v → FW w
  calls_both {v} t (CallsForBody.start {m = m} {done = done} {s = s} p) f = call_both (host_of v) v.engine.standing m done (around s) t.host (starts_around same_url modules_in BeginsImport KeepsBoth lasts_both p) f
  calls_both {v} t (CallsForBody.run {m = m} {s = s} p) f = segment_both (host_of v) v.engine.standing (around s) t.host (runs_around same_url modules_in BeginsImport KeepsBoth lasts_both p) f

  -- ---- evaluation

  abbrev Both : World → Type 0
  Both w = AreTold w × FW w

  record KeptBothWorld (v w : World) : Type 0 where
    kept : KeptWorld v w
    followed : FW w

  both_holding : Holding evaluation CallsForBody Both FreeIn KeptBothWorld
  both_holding = record {
    same = λ w h. record { kept = holding.same w h.0; followed = h.1 };
    on = λ a b. record { kept = holding.on a.kept b.kept; followed = b.followed };
    holds = λ a. (a.kept.told, a.followed);
    free = λ a. a.kept.free;
    node = λ w x p h e. h.0.nodes x p e;
    put = λ w x n h f. record { kept = holding.put w x n h.0 f; followed = h.1 };
    stamp = λ w x h. record { kept = holding.stamp w x h.0; followed = h.1 };
    make = λ w h. record { kept = holding.make w h.0; followed = goes_followed out w.loading (push_goes w.promises (Pending [])) h.1 };
    made = λ w h. holding.made w h.0;
    make_body = λ w x h. record { kept = holding.make_body w x h.0; followed = goes_followed out w.loading (push_goes w.promises (Pending (BodyEnd x ∷ []))) h.1 };
    made_body = λ w x h. holding.made_body w x h.0;
    fulfill = λ w p h f. record { kept = holding.fulfill w p h.0 f; followed = goes_followed out w.loading (settle_goes w.promises p (Fulfilled Undefined)) h.1 };
    reject = λ w p v h f. record { kept = holding.reject w p v h.0 f; followed = goes_followed out w.loading (settle_goes w.promises p (Rejected v)) h.1 };
    call = λ h f p. record { kept = holding.call h.0 f p; followed = calls_both h.0 p h.1 };
  }

-- ---- jobs

-- the load whose import() the job of the reaction carries on
abbrev load_of : Reaction Url → Option ℕ
load_of (Loaded s) = Some s
load_of (Evaluated s) = Some s
load_of (Await m) = None
load_of (BodyEnd m) = None
load_of EntryLoaded = None
load_of EntryDone = None

-- the job of the load is done, and its import() is followed
again : (l : Loading) (ps : Ps) (s : ℕ) → F (Some s) l ps → ((q p : ℕ) → slice_get l.purposes s ≡ Some (ForImport q (Some p)) → IsFollowed ps s q) → F None l ps
again l ps s f own = record { going = λ k q p e n. by k q p e (equal_cases k s); asked = f.asked; ended = f.ended }
  where
    by : (k q p : ℕ) → slice_get l.purposes k ≡ Some (ForImport q (Some p)) → (k ≡ s) ⊎ (k ≡ s → ⊥) → IsFollowed ps k q
    by k q p e (inl d) = subst (λ x. IsFollowed ps x q) (sym d) (own q p (subst (λ x. slice_get l.purposes x ≡ Some (ForImport q (Some p))) d e))
    by k q p e (inr n) = f.going k q p e (λ d. n (sym (some_is d)))

-- a job is taken
taken_both : (w : World) (j : Job (Reaction Url)) (left : Ps) → next_job w.promises ≡ Some (j, left) → F None w.loading w.promises → F (load_of j.reaction) w.loading left
taken_both w j left e f = record {
  going = λ s q p d n. on s q n (f.going s q p d (λ z. cc));
  asked = λ s q d n. either s q (f.asked s q d n);
  ended = λ s p state o d t n. taken_settled w.promises left j p e (f.ended s p state o d t n);
}
  where
    waits : (s q : ℕ) (r : Reaction Url) → load_of r ≡ Some s → (load_of j.reaction ≡ Some s → ⊥) → (j.reaction ≡ r) ⊎ IsWaiting left r → IsWaiting left r
    waits s q r is n (inl d) = absurd (n (ap load_of d ∙ is))
    waits s q r is n (inr h) = h

    on : (s q : ℕ) → (load_of j.reaction ≡ Some s → ⊥) → IsFollowed w.promises s q → IsFollowed left s q
    on s q n (IsFollowed.settled h) = IsFollowed.settled (taken_settled w.promises left j q e h)
    on s q n (IsFollowed.loads h) = IsFollowed.loads (waits s q (Loaded s) refl n (taken_waits w.promises left j (Loaded s) e h))
    on s q n (IsFollowed.evaluates h) = IsFollowed.evaluates (waits s q (Evaluated s) refl n (taken_waits w.promises left j (Evaluated s) e h))

    either : (s q : ℕ) → (slice_get w.loading.loads s ≡ Some Asked) ⊎ IsSettled w.promises q → (slice_get w.loading.loads s ≡ Some Asked) ⊎ IsSettled left q
    either s q (inl a) = inl a
    either s q (inr h) = inr (taken_settled w.promises left j q e h)

-- the promise of the import() is settled
import_settled : (w : World) (s q : ℕ) (how : Settled (Value Url)) → AreToldOf w.loading w.promises → import_promise w.loading s ≡ Some q → F (Some s) w.loading w.promises → F None w.loading (settle w.promises q how)
import_settled w s q how t is f = again w.loading (settle w.promises q how) s (goes_followed (Some s) w.loading (settle_goes w.promises q how) f) own
  where
    own : (r p : ℕ) → slice_get w.loading.purposes s ≡ Some (ForImport r (Some p)) → IsFollowed (settle w.promises q how) s r
    own r p e =
        let same : r ≡ q = some_is (sym (ap import_promise_in e) ∙ is) in
        IsFollowed.settled (subst (λ x. IsSettled (settle w.promises q how) x) (sym same) (settled_own w.promises.all q how (t.made s q OfImport is)))

evaluates_both : (out : Option ℕ) (v : World) (load : ℕ) (a : Result ℕ Limit) (after : World) → AreTold v → F out v.loading v.promises → EvaluatesLoad v load a after → F out after.loading after.promises
evaluates_both out v load a after t f p = (evaluates_holds evaluation CallsForBody (Both out) FreeIn (KeptBothWorld out) (both_holding out) (with_linked v p.linked) p.root (linked_told v p.linked t, f) p.evaluates).followed

answer_free : (v : World) (load q : ℕ) (after : World) → AreTold v → EvaluatesLoad v load (Ok q) after → FreeIn after q
answer_free v load q after t p = evaluates_free evaluation CallsForBody AreTold FreeIn KeptWorld holding (with_linked v p.linked) p.root (linked_told v p.linked t) p.evaluates

-- no limit has stopped it behind an evaluation that a limit stopped: there is no such world
answer_stops : (v : World) (load : ℕ) (limit : Limit) (after : World) → EvaluatesLoad v load (Err limit) after → stopped after ≡ None → ⊥
answer_stops v load limit after p live = none_stopped (stopped after) (evaluates_stop evaluation CallsForBody IsStopped stops_call (with_linked v p.linked) p.root p.evaluates) live

linked_both : (v after : World) (s : ℕ) (a : Result ℕ Limit) → AreTold v → F (Some s) v.loading v.promises → EvaluatesLoad v s a after → stopped (when_evaluated after (Evaluated s) a) ≡ None → F None (when_evaluated after (Evaluated s) a).loading (when_evaluated after (Evaluated s) a).promises
linked_both v after s (Ok q) t f p live =
    let g = evaluates_both (Some s) v s (Ok q) after t f p in
    let made = answer_free v s q after t p in
    again after.loading (register after.promises q (Evaluated s)) s (goes_followed (Some s) after.loading (register_goes after.promises q (Evaluated s)) g)
    (λ r o e. IsFollowed.evaluates (registered_waits after.promises q (Evaluated s) made.made))
linked_both v after s (Err limit) t f p live = absurd (answer_stops v s limit after p live)

entry_both : (v after : World) (a : Result ℕ Limit) → AreTold v → F None v.loading v.promises → EvaluatesLoad v 0 a after → F None (when_evaluated after EntryDone a).loading (when_evaluated after EntryDone a).promises
entry_both v after (Ok q) t f p = goes_followed None after.loading (register_goes after.promises q EntryDone) (evaluates_both None v 0 (Ok q) after t f p)
entry_both v after (Err limit) t f p = evaluates_both None v 0 (Err limit) after t f p

reacts_both : {v w : World} {r : Reaction Url} {how : Settled (Value Url)} → AreTold v → F (load_of r) v.loading v.promises → Reacts v r how w → stopped w ≡ None → F None w.loading w.promises
reacts_both {v} t f (entry_linked {after = after} {answer = a} e) live = entry_both v after a t f e
reacts_both t f (entry_fault root x ls l) live = f
reacts_both t f entry_refused live = f
reacts_both t f entry_ended live = f
reacts_both t f entry_threw live = f
reacts_both {v} t f (linked {after = after} {s = s} {answer = a} e) live = linked_both v after s a t f e live
reacts_both {v} t f (fault {s = s} q root x ls n l) live = import_settled v s q _ t.host.told n f
reacts_both {v} t f (refused {s = s} q n) live = import_settled v s q _ t.host.told n f
reacts_both {v} t f (evaluated {s = s} q root n o) live = import_settled v s q _ t.host.told n f
reacts_both {v} t f (threw {s = s} q n) live = import_settled v s q _ t.host.told n f
reacts_both {v} t f (body_ended e) live = (fulfills_holds evaluation CallsForBody (Both None) FreeIn (KeptBothWorld None) (both_holding None) (t, f) e).followed
reacts_both {v} t f (body_threw e) live = (rejects_holds evaluation CallsForBody (Both None) FreeIn (KeptBothWorld None) (both_holding None) (t, f) e).followed
reacts_both {v} t f (resumes {m = x} {s = s} e) live = call_both None (host_of v) e.taken.others x e.taken.standing.done (around s) t.host (resumes_around same_url modules_in BeginsImport (KeepsBoth None) (lasts_both None) e) f

-- ---- runs

-- what is told and what follows of each import(), unless a limit has stopped
record Follows (w : World) : Type 0 where
  told : AreTold w
  followed : stopped w ≡ None → F None w.loading w.promises

jobs_follow : {v w : World} → Follows v → Jobs v w → Follows w
jobs_follow h (Jobs.none n) = h
jobs_follow h (Jobs.stops l s) = h
jobs_follow {v} h (Jobs.job {mid = mid} j left how live e s r p) = jobs_follow (record {
  told = (job_kept v mid j left how h.told e s r).told;
  followed = λ l. reacts_both (taken_told v j left h.told e).0 (taken_both v j left e (h.followed live)) r l;
}) p

loading_live : (o e : Option Limit) → option_or o e ≡ None → o ≡ None
loading_live None e h = refl
loading_live (Some limit) e h = cc

tasks_follow : {v w : World} → Follows v → Tasks v w → Follows w
tasks_follow h (Tasks.none n) = h
tasks_follow h (Tasks.stops l s) = h
tasks_follow {v} h (Tasks.task {h = k} live a j p) = tasks_follow (jobs_follow (record {
  told = answers v k h.told live a;
  followed = λ l. next_followed None (host_of v) k h.told.host.orderly (loading_live v.loading.stopped v.engine.stopped live) h.told.host.owes h.told.host.told (h.followed live) a;
}) j) p

turn_follow : {v : World} {u : Url} {c : OutcomeView} {w : World} → Follows (fetched v u c) → Turn v u c w → Follows w
turn_follow h (Turn.limit l s) = h
turn_follow h (Turn.turn l p) = tasks_follow h p

-- the end of a fetch changes no load and no promise
fetch_follow : (w : World) (u : Url) (c : OutcomeView) → F None w.loading w.promises → F None (fetched w u c).loading (fetched w u c).promises
fetch_follow w u c f =
    let s = fetched_same (nat_lt MAX_DELIVERED_BYTES (w.loading.bytes + bytes_of c)) (host_of w) u c in
    subst (λ ps. F None (fetched w u c).loading ps) (sym s.promises) (same_followed None w.loading (fetched w u c).loading w.promises s.purposes s.loads f)

asks_live : (o : Option Limit) (us : List Url) (u : Url) → has (asks_by o us) u ≡ true → o ≡ None
asks_live None us u h = refl
asks_live (Some limit) us u h = absurd cc

runs_follow : (ds : List Delivery) (v w : World) → Follows v → Runs v ds w → Follows w
runs_follow [] v w h p = subst (λ x. Follows x) (sym p) h
runs_follow (d ∷ ds) v w h p = runs_follow ds p.1 w (turn_follow (record {
  told = fetches v d h.told p.0;
  followed = λ l. fetch_follow v d.url d.outcome (h.followed (asks_live (stopped v) (open_asks v.loading) d.url p.0.asked));
}) p.2) p.3

opening_followed : (maps : Maps) (built : List Item → Bool) (entry : Url) → F None (opening_host maps built entry).imports (opening_host maps built entry).promises
opening_followed maps built entry = record { going = going; asked = asked; ended = ended }
  where
    going : (s q p : ℕ) → slice_get (opening_host maps built entry).imports.purposes s ≡ Some (ForImport q (Some p)) → (◌≡◌ {A = Option ℕ} None (Some s) → ⊥) → IsFollowed (opening_host maps built entry).promises s q
    going zero q p e n = cc
    going (suc s) q p e n = cc

    asked : (s q : ℕ) → slice_get (opening_host maps built entry).imports.purposes s ≡ Some (ForImport q None) → (◌≡◌ {A = Option ℕ} None (Some s) → ⊥) → (slice_get (opening_host maps built entry).imports.loads s ≡ Some Asked) ⊎ IsSettled (opening_host maps built entry).promises q
    asked zero q e n = cc
    asked (suc s) q e n = cc

    ended : (s p : ℕ) (state : LoadState) → load_promise (opening_host maps built entry).imports s Own ≡ Some p → slice_get (opening_host maps built entry).imports.loads s ≡ Some state → HasEnded state → (◌≡◌ {A = Option ℕ} None (Some s) → ⊥) → IsSettled (opening_host maps built entry).promises p
    ended zero p Asked o e d n = absurd d
    ended zero p (LoadState.Open r v) o e d n = absurd d
    ended zero p (LoadState.LoadComplete r) o e d n = cc
    ended zero p (LoadState.Thrown t) o e d n = cc
    ended (suc s) p state o e d n = cc

-- ---- behind a turn

stands_all : (l : Loading) (p : ℕ) (rs : List (Reaction Url)) → AllByRecursion (MayStandOn l p) rs → (r : Reaction Url) → Contains rs r → MayStandOn l p r
stands_all l p [] h r c = absurd (contains_none r c)
stands_all l p (x ∷ xs) h r c = by (contains_cases x xs r c) (stands_all l p xs h.1 r)
  where
    by : (x ≡ r) ⊎ Contains xs r → (Contains xs r → MayStandOn l p r) → MayStandOn l p r
    by (inl e) rest = subst (λ y. MayStandOn l p y) e h.0
    by (inr k) rest = rest k

no_jobs : (ps : Ps) → next_job ps ≡ None → (j : Job (Reaction Url)) → Contains ps.jobs j → ⊥
no_jobs ps e j c = by ps.jobs e c
  where
    by : (js : List (Job (Reaction Url))) → first_job js ps ≡ None → Contains js j → ⊥
    by [] e c = contains_none j c
    by (x ∷ xs) e c = cc

gone_on : (w : World) (s q : ℕ) (purpose : Purpose) → AreTold w → F None w.loading w.promises → next_job w.promises ≡ None → slice_get w.loading.purposes s ≡ Some purpose → import_promise_in (Some purpose) ≡ Some q → HasGoneOn w s q
gone_on w s q (ForEntry p) t f idle e is = cc
gone_on w s q (ForImport r None) t f idle e is = by (f.asked s q (e ∙ ap (λ x. Some (ForImport x None)) (some_is is)) (λ z. cc))
  where
    not_asked : (state : LoadState) → slice_get w.loading.loads s ≡ Some Asked → slice_get w.loading.loads s ≡ Some state → HasEnded state → ⊥
    not_asked state a d h = let same : Asked ≡ state = some_is (sym a ∙ d) in subst HasEnded (sym same) h

    by : (slice_get w.loading.loads s ≡ Some Asked) ⊎ IsSettled w.promises q → HasGoneOn w s q
    by (inl a) = HasGoneOn.loads (λ state d h. not_asked state a d h)
    by (inr h) = HasGoneOn.ends h
gone_on w s q (ForImport r (Some p)) t f idle e is = by (f.going s q p (e ∙ ap (λ x. Some (ForImport x (Some p))) (some_is is)) (λ z. cc))
  where
    -- a pending promise isn't settled
    pending_not : (a : ℕ) (rs : List (Reaction Url)) → slice_get w.promises.all a ≡ Some (Pending rs) → IsSettled w.promises a → ⊥
    pending_not a rs d h = let none : is_some (settled w.promises a) ≡ false = ap (λ o. is_some (settled_by o)) d in let z : false ≡ true = sym none ∙ h in cc

    -- the reaction to the load's end stands on its own promise, so the load hasn't ended
    loading : IsWaiting w.promises (Loaded s) → HasGoneOn w s q
    loading (IsWaiting.in_job j c d) = absurd (no_jobs w.promises idle j c)
    loading (IsWaiting.stands a rs d c) =
        let m = stands_all w.loading a rs (t.host.told.reactions a rs d) (Loaded s) c in
        HasGoneOn.loads (λ state x h. pending_not a rs d (f.ended s a state (ap own_promise_in m.1) x h (λ z. cc)))

    evaluating : IsWaiting w.promises (Evaluated s) → HasGoneOn w s q
    evaluating (IsWaiting.in_job j c d) = absurd (no_jobs w.promises idle j c)
    evaluating (IsWaiting.stands a rs d c) = HasGoneOn.evaluates a rs d c

    by : IsFollowed w.promises s q → HasGoneOn w s q
    by (IsFollowed.settled h) = HasGoneOn.ends h
    by (IsFollowed.loads h) = loading h
    by (IsFollowed.evaluates h) = evaluating h

has_purpose : (o : Option Purpose) (q : ℕ) → import_promise_in o ≡ Some q → (purpose : Purpose) × (o ≡ Some purpose)
has_purpose None q e = cc
has_purpose (Some p) q e = (p, refl)

pub imports_go_on : ImportsGoOn
imports_go_on maps built entry trace ds w p live s q e =
    let h = runs_follow ds (opening maps built entry trace) w (record { told = opens maps built entry trace; followed = λ l. opening_followed maps built entry }) p in
    let k = has_purpose (slice_get w.loading.purposes s) q e in
    gone_on w s q k.0 h.told (h.followed live) (turns_leave_nothing maps built entry trace ds w p live).jobs k.1 (ap import_promise_in (sym k.1) ∙ e)
