-- Where the job of the end of a body is taken and its promise is fulfilled, the body has ended normally: each step of a world keeps it.
use Rattle.std.proofs.Common.{◌≡◌, ◌⊎◌, inl, inr, ℕ, ◌+◌, ◌<◌, Bool, true, false, cond, List, [], ◌∷◌, ◌++◌, length, Option, Some, None, refl, ap, subst, sym, ◌∙◌}
use Rattle.std.specs.Prelude.{slice_get, nat_lt, Result, Ok, Err}
use Rattle.std.proofs.lemmas.List.{append-nil}
use Rattle.std.specs.List.{AllByRecursion, list_any}
use Rattle.esm_base.specs.declared.limits.Limit.{Limit}
use Rattle.esm_base.specs.declared.limits.TheConstants.{MAX_DELIVERED_BYTES}
use Rattle.esm_tree.specs.Syntax.{Item}
use Rattle.esm_import_map.specs.ImportMap.{Maps}
use Rattle.esm_values.specs.Ran.{Ran}
use Rattle.esm_values.specs.Ran.{Ran as ran}
use Rattle.esm_base.specs.Urls.{Url, same_url}
use Rattle.esm_realm.proofs.Urls.{own_text, or_left, or_true, or_cases}
use Rattle.esm_realm.proofs.Lists.{either}
use Rattle.esm_values.specs.Value.{Value, Undefined, Namespace}
use Rattle.esm_promise.specs.Promises.{Settled, Fulfilled, Rejected, Job, settle, settled, register_by, next_promise, next_job}
use Rattle.esm_promise.specs.Promises.{Promise, Pending, Done, no_promises}
use Rattle.esm_promise.specs.Reactions.{Reaction, BodyEnd, EntryLoaded, EntryDone, Evaluated}
use Rattle.esm_ast.specs.Deliveries.{Delivery}
use Rattle.esm_loads.specs.Loading.{Loading}
use Rattle.esm_loads.specs.Host.{Host}
use Rattle.esm_loads.specs.Arrival.{AnswersNext, bytes_of}
use Rattle.esm_loads.specs.ImportCall.{BeginsImport}
use Rattle.esm_loads.proofs.Requests.{length_set}
use Rattle.esm_eval.specs.Nodes.{Node, Call, CallAnswer}
use Rattle.esm_rewriting.specs.State.{Event, Begins, Ends, Throws, State, Standing, begins_at}
use Rattle.esm_rewriting.specs.Bodies.{ResumesBody, Taken, take_standing, take_by, await_on}
use Rattle.esm_world.specs.World.{World, modules_in, body_state, host_of, with_host, with_state, opening, stopped}
use Rattle.esm_world.specs.Layers.{CallsForBody, evaluation, with_linked, with_promises}
use Rattle.esm_world.specs.Jobs.{EvaluatesLoad, Reacts, when_evaluated, with_reaction}
use Rattle.esm_world.specs.Jobs.Reacts.{entry_linked, entry_fault, entry_refused, entry_ended, entry_threw, linked, fault, refused, evaluated, threw, body_ended, body_threw, resumes}
use Rattle.esm_world.specs.Turn.{fetched}
use Rattle.esm_world.specs.Run.{IsAllowed}
use Rattle.esm_world.specs.Told.{OfImport, IsFree, AreTold}
use Rattle.esm_world.proofs.AwaitCounts.{taken_is}
use Rattle.esm_world.proofs.Each.{pushed, all_on}
use Rattle.esm_world.proofs.OuterKeeps.{Around, around, settles, resumes_around}
use Rattle.esm_world.proofs.ToldPromises.{Ps, below_not, some_is}
use Rattle.esm_world.proofs.ToldHost.{KeptHost, same_rows, KeepsTold, lasts_told}
use Rattle.esm_world.proofs.ToldWorld.{FreeIn, KeptWorld, stays_told, taken_told, taken_free, call_told, answer_kept, fetched_same, fetch_told, open_asked, linked_told}
use Rattle.esm_world.proofs.ToldWorld.{holding as loads_hold}
use Rattle.esm_needs_laws.proofs.BodyEvents.{Whole, whole, EndsWell, StartsWell, RunsWell, RanWell, RanEvents, starts_well, runs_well, resumes_well}
use Rattle.esm_needs_laws.proofs.Holds.{OwnCall, Holding, evaluates_holds, fulfills_holds, rejects_holds}
use Rattle.esm_needs_laws.proofs.Promised.{Among, among_left, among_last, BodyAt, FulfilledJob, Quiet, IsOther, quiet_same, make_bodies, make_jobs, make_quiet, settle_bodies, settle_ends, settle_quiet, reject_quiet, register_quiet, await_quiet, takes, taken_quiet, taken_fulfilled}
use Rattle.esm_needs_laws.proofs.Settling.{AreFreeBodies, made_of, KeepsQuiet, lasts_quiet, next_quiet}

-- ---- what has begun and ended

abbrev pub Events : Type 0
Events = List (Event Url)

abbrev pub BegunIn : Events → Url → Type 0
BegunIn es m = list_any (begins_at same_url m) es ≡ true

-- the body has ended normally, and so it has begun
abbrev pub EndedIn : Events → Url → Type 0
EndedIn es m = Among (Ends m) es × BegunIn es m

abbrev pub Ended : World → Url → Type 0
Ended w m = EndedIn w.engine.events m

pub begun_on : (m : Url) (es fs : Events) → BegunIn es m → BegunIn (es ++ fs) m
begun_on m [] fs h = absurd (let e : false ≡ true = h in cc)
begun_on m (e ∷ es) fs h = either (or_cases (begins_at same_url m e) (list_any (begins_at same_url m) es) h)
    (λ k. or_left (begins_at same_url m e) (list_any (begins_at same_url m) (es ++ fs)) k)
    (λ k. or_true (begins_at same_url m e) (list_any (begins_at same_url m) (es ++ fs)) (begun_on m es fs k))

pub begun_last : (m : Url) (es : Events) → BegunIn (es ++ Begins m ∷ []) m
begun_last m [] = or_left (same_url m m) false (own_text m)
begun_last m (e ∷ es) = or_true (begins_at same_url m e) (list_any (begins_at same_url m) (es ++ Begins m ∷ [])) (begun_last m es)

pub ended_on : (m : Url) (es fs : Events) → EndedIn es m → EndedIn (es ++ fs) m
ended_on m es fs h = (among_left (Ends m) es fs h.0, begun_on m es fs h.1)

pub ended_last : (m : Url) (es : Events) → BegunIn es m → EndedIn (es ++ Ends m ∷ []) m
ended_last m es h = (among_last (Ends m) es, begun_on m es (Ends m ∷ []) h)

-- ---- what is told of a world

-- a body that stands has begun, and of reactions to the end of a body none but its own stand on the promise of its end
pub record StandsSo (ps : Ps) (es : Events) (s : Standing Url) : Type 0 where
  pub begun : BegunIn es s.at
  pub own : (m : Url) → BodyAt ps s.done m → m ≡ s.at

abbrev AreStanding : Ps → Events → List (Standing Url) → Type 0
AreStanding ps es ss = AllByRecursion (StandsSo ps es) ss

pub record EndsTold (w : World) : Type 0 where
  pub told : AreTold w
  pub free : (p : ℕ) (m : Url) → BodyAt w.promises p m → FreeIn w p
  pub ended : (p : ℕ) (m : Url) → FulfilledJob w.promises p m → Ended w m
  pub nodes : (u : Url) (p : ℕ) (m : Url) → (w.nodes u).promise ≡ Some p → BodyAt w.promises p m → ⊥
  pub standing : AreStanding w.promises w.engine.events w.engine.standing

stand_on : (ps qs : Ps) (es fs : Events) (ss : List (Standing Url)) → Quiet ps qs → ((m : Url) → BegunIn es m → BegunIn fs m) → AreStanding ps es ss → AreStanding qs fs ss
stand_on ps qs es fs ss q f h = all_on (StandsSo ps es) (StandsSo qs fs) ss (λ s k. record { begun = f s.at k.begun; own = λ m b. k.own m (q.bodies s.done m b) }) h

-- the same nodes, the same bodies that stand, and the same events
quiet_ends : (v w : World) → EndsTold v → AreTold w → ((p : ℕ) → FreeIn v p → FreeIn w p) → Quiet v.promises w.promises → w.nodes ≡ v.nodes → w.engine.standing ≡ v.engine.standing → w.engine.events ≡ v.engine.events → EndsTold w
quiet_ends v w t told free q n s e = record {
  told = told;
  free = λ p m b. free p (t.free p m (q.bodies p m b));
  ended = λ p m f. subst (λ es. EndedIn es m) (sym e) (t.ended p m (q.jobs p m f));
  nodes = λ u p m d b. t.nodes u p m (sym (ap (λ (ns : Url → Node Url (Value Url)). (ns u).promise) n) ∙ d) (q.bodies p m b);
  standing = subst (λ ss. AreStanding w.promises w.engine.events ss) (sym s) (subst (λ es. AreStanding w.promises es v.engine.standing) (sym e)
      (stand_on v.promises w.promises v.engine.events v.engine.events v.engine.standing q (λ m h. h) t.standing));
}

-- ---- a call for a body

-- what is so up to here in a body, which was called, or goes on, in this world
record Amid (v : World) (a : Whole Url Loading) : Type 0 where
  bodies : (p : ℕ) (m : Url) → BodyAt a.0.0.promises p m → BodyAt v.promises p m
  jobs : (p : ℕ) (m : Url) → FulfilledJob a.0.0.promises p m → EndedIn a.1 m
  standing : AreStanding a.0.0.promises a.1 a.0.1

-- the segment of a body that has begun
amid_late : (v : World) (a late : Whole Url Loading) (fs : Events) → Quiet a.0.0.promises late.0.0.promises → late.0.1 ≡ a.0.1 → late.1 ≡ a.1 ++ fs → Amid v a → Amid v late
amid_late v a late fs q s e h = record {
  bodies = λ p m b. h.bodies p m (q.bodies p m b);
  jobs = λ p m f. subst (λ es. EndedIn es m) (sym e) (ended_on m a.1 fs (h.jobs p m (q.jobs p m f)));
  standing = subst (λ ss. AreStanding late.0.0.promises late.1 ss) (sym s) (subst (λ es. AreStanding late.0.0.promises es a.0.1) (sym e)
      (stand_on a.0.0.promises late.0.0.promises a.1 (a.1 ++ fs) a.0.1 q (λ m b. begun_on m a.1 fs b) h.standing));
}

-- what the end of the body of m leaves, which has begun, and on whose promise no other reaction to the end of a body stands
amid_end : (v : World) (m : Url) (done : ℕ) (late w : Whole Url Loading) → AreFreeBodies late.0.0 → BegunIn late.1 m → ((x : Url) → BodyAt late.0.0.promises done x → x ≡ m) → EndsWell m done late w → Amid v late → Amid v w
amid_end v m done late w free begun own (EndsWell.stays e) h = subst (λ x. Amid v x) (sym e) h
amid_end v m done late w free begun own (EndsWell.fulfilled e) h = subst (λ x. Amid v x) (sym e) (record {
  bodies = λ p x b. h.bodies p x (settle_bodies late.0.0.promises done (Fulfilled Undefined) p x b);
  jobs = λ p x f. either (settle_ends late.0.0.promises done (Fulfilled Undefined) p x f) (λ g. ended_on x late.1 (Ends m ∷ []) (h.jobs p x g))
      (λ d. subst (λ y. EndedIn (late.1 ++ Ends m ∷ []) y) (sym (own x d.0)) (ended_last m late.1 begun));
  standing = all_on (StandsSo late.0.0.promises late.1) (StandsSo (settle late.0.0.promises done (Fulfilled Undefined)) (late.1 ++ Ends m ∷ [])) late.0.1
      (λ s k. record { begun = begun_on s.at late.1 (Ends m ∷ []) k.begun; own = λ x b. k.own x (settle_bodies late.0.0.promises done (Fulfilled Undefined) s.done x b) }) h.standing;
})
amid_end v m done late w free begun own (EndsWell.rejected u e) h = subst (λ x. Amid v x) (sym e)
    (amid_late v late ((settles late.0.0 done (Rejected u), late.0.1), late.1 ++ Throws m ∷ []) (Throws m ∷ []) (reject_quiet late.0.0.promises done u) refl refl h)
amid_end v m done late w free begun own (EndsWell.stands u rest e) h = subst (λ x. Amid v x) (sym e) (record {
  bodies = λ p x b. h.bodies p x (q.bodies p x b);
  jobs = λ p x f. h.jobs p x (q.jobs p x f);
  standing = pushed (StandsSo (await_on late.0.0.promises u m) late.1) late.0.1 (record { at = m; done = done; rest = rest })
      (stand_on late.0.0.promises (await_on late.0.0.promises u m) late.1 late.1 late.0.1 q (λ x b. b) h.standing)
      (record { begun = begun; own = λ x b. own x (q.bodies done x b) });
})
  where
    q : Quiet late.0.0.promises (await_on late.0.0.promises u m)
    q = await_quiet late.0.0.promises u m (made_of late.0.0 free)

-- ---- evaluation

-- no reaction to the end of a body stands on the promise, which belongs to no load
pub record IsPlain (w : World) (p : ℕ) : Type 0 where
  pub free : FreeIn w p
  pub none : (m : Url) → BodyAt w.promises p m → ⊥

-- none but those to the end of this body
pub record IsOwn (w : World) (p : ℕ) (m : Url) : Type 0 where
  pub free : FreeIn w p
  pub own : (x : Url) → BodyAt w.promises p x → x ≡ m

pub record KeptEnds (v w : World) : Type 0 where
  pub ends : EndsTold w
  pub free : (p : ℕ) → FreeIn v p → FreeIn w p
  pub fewer : (p : ℕ) (m : Url) → FreeIn v p → BodyAt w.promises p m → BodyAt v.promises p m

quiet_kept : (v w : World) → EndsTold v → KeptWorld v w → Quiet v.promises w.promises → w.nodes ≡ v.nodes → w.engine.standing ≡ v.engine.standing → w.engine.events ≡ v.engine.events → KeptEnds v w
quiet_kept v w t k q n s e = record { ends = quiet_ends v w t k.told k.free q n s e; free = k.free; fewer = λ p m f b. q.bodies p m b }

-- a body was called, or goes on
called : (v : World) (s : State Url Loading) → EndsTold v → KeptWorld v (with_state v s) → Amid v (whole s) → KeptEnds v (with_state v s)
called v s t k h = record {
  ends = record {
    told = k.told;
    free = λ p m b. k.free p (t.free p m (h.bodies p m b));
    ended = h.jobs;
    nodes = λ u p m d b. t.nodes u p m d (h.bodies p m b);
    standing = h.standing;
  };
  free = k.free;
  fewer = λ p m f b. h.bodies p m b;
}

amid_begin : (v : World) → EndsTold v → Amid v (whole (body_state v))
amid_begin v t = record { bodies = λ p m b. b; jobs = t.ended; standing = t.standing }

-- what a segment keeps of the promises of ends
segment_free : (a late : Whole Url Loading) (k : KeptHost a.0.0 late.0.0 × Quiet a.0.0.promises late.0.0.promises) → AreFreeBodies a.0.0 → AreFreeBodies late.0.0
segment_free a late k f p m b = k.0.free p (f p m (k.1.bodies p m b))

starts_amid : (v : World) (m : Url) (done : ℕ) (w : Whole Url Loading) → EndsTold v → IsOwn v done m → StartsWell KeepsQuiet m done (whole (body_state v)) w → Amid v w
starts_amid v m done w t o (StartsWell.stopped e) = subst (λ x. Amid v x) (sym e) (amid_begin v t)
starts_amid v m done w t o (StartsWell.begun late keeps e ends) =
    let k = keeps.outer t.told.host t.free in
    let h = amid_late v (whole (body_state v)) late (Begins m ∷ []) k.1 keeps.standing e (amid_begin v t) in
    amid_end v m done late w (segment_free (whole (body_state v)) late k t.free) (subst (λ es. BegunIn es m) (sym e) (begun_last m v.engine.events))
    (λ x b. o.own x (k.1.bodies done x b)) ends h

ran_amid : (v : World) (m : Url) (r : Result (Ran (Value Url)) Limit) (late w : Whole Url Loading) → RanWell m r late w → Amid v late → Amid v w
ran_amid v m r late w q h = by r q.events
  where
    with_more : (fs : Events) → w.1 ≡ late.1 ++ fs → Amid v w
    with_more fs e =
        amid_late v late w fs (subst (λ (x : Host). Quiet late.0.0.promises x.promises) (sym (ap (λ (a : Around Url Loading). a.0) q.same)) (quiet_same late.0.0.promises))
        (ap (λ (a : Around Url Loading). a.1) q.same) e h

    by : (r : Result (Ran (Value Url)) Limit) → RanEvents m late.1 r w.1 → Amid v w
    by (Ok ran.Normal) e = with_more (Ends m ∷ []) e
    by (Ok (ran.Thrown u)) e = with_more (Throws m ∷ []) e
    by (Err why) e = with_more [] (e ∙ sym (append-nil late.1))

runs_amid : (v : World) (m : Url) (r : Result (Ran (Value Url)) Limit) (w : Whole Url Loading) → EndsTold v → RunsWell KeepsQuiet m r (whole (body_state v)) w → Amid v w
runs_amid v m r w t (RunsWell.stopped why k e) = subst (λ x. Amid v x) (sym e) (amid_begin v t)
runs_amid v m r w t (RunsWell.begun late keeps e q) =
    let k = keeps.outer t.told.host t.free in
    ran_amid v m r late w q (amid_late v (whole (body_state v)) late (Begins m ∷ []) k.1 keeps.standing e (amid_begin v t))

calls_end : {v w : World} {c : Call Url} {r : Result (CallAnswer (Value Url) c) Limit} → EndsTold v → OwnCall IsOwn v c → CallsForBody v c r w → KeptEnds v w
calls_end {v} t o (CallsForBody.start {m = m} {done = done} {s = s} p) =
    called v s t (loads_hold.call t.told o.free (CallsForBody.start {w = v} p))
    (starts_amid v m done (whole s) t o (starts_well same_url modules_in BeginsImport KeepsQuiet lasts_quiet p))
calls_end {v} t o (CallsForBody.run {m = m} {end = r} {s = s} p) =
    called v s t (loads_hold.call t.told tt (CallsForBody.run {w = v} p))
    (runs_amid v m r (whole s) t (runs_well same_url modules_in BeginsImport KeepsQuiet lasts_quiet p))

-- ---- what evaluation writes

puts : (w : World) (x : Url) (n : Node Url (Value Url)) → EndsTold w → ((p : ℕ) → n.promise ≡ Some p → IsPlain w p) → KeptEnds w (evaluation.put w x n)
puts w x n t f = record {
  ends = record { told = k.told; free = t.free; ended = t.ended; nodes = λ u p m d b. by u p m (same_url x u) d b; standing = t.standing };
  free = k.free;
  fewer = λ p m g b. b;
}
  where
    k : KeptWorld w (evaluation.put w x n)
    k = loads_hold.put w x n t.told (λ p e. (f p e).free)

    by : (u : Url) (p : ℕ) (m : Url) (b : Bool) → (cond b n (w.nodes u)).promise ≡ Some p → BodyAt w.promises p m → ⊥
    by u p m true d b = (f p d).none m b
    by u p m false d b = t.nodes u p m d b

-- nothing stands on what is made next
none_next : (w : World) → EndsTold w → (m : Url) → BodyAt w.promises (next_promise w.promises) m → ⊥
none_next w t m b = below_not (next_promise w.promises) (next_promise w.promises) (t.free (next_promise w.promises) m b).made refl

only_own : (x m : Url) → Among (BodyEnd m) (BodyEnd x ∷ []) → m ≡ x
only_own x m h = either h (λ e. same e) (λ z. absurd z)
  where
    same : ◌≡◌ {A = Reaction Url} (BodyEnd m) (BodyEnd x) → m ≡ x
    same e = cc

module _ (w : World) (x : Url) (t : EndsTold w) where
  abbrev now : World
  now = evaluation.make_body_promise w x

  own_or_old : (p : ℕ) (m : Url) → BodyAt now.promises p m → ((p ≡ next_promise w.promises) × (m ≡ x)) ⊎ BodyAt w.promises p m
  own_or_old p m b = either (make_bodies w.promises (BodyEnd x ∷ []) p m b) (λ d. inl (d.0, only_own x m d.1)) (λ k. inr k)

  -- of a promise that was made before
  old_one : (p : ℕ) (m : Url) → FreeIn w p → BodyAt now.promises p m → BodyAt w.promises p m
  old_one p m f b = either (own_or_old p m b) (λ d. absurd (below_not p (next_promise w.promises) f.made d.0)) (λ k. k)

  stand_made : (ss : List (Standing Url)) → AllByRecursion (λ (s : Standing Url). FreeIn w s.done) ss → AreStanding w.promises w.engine.events ss → AreStanding now.promises w.engine.events ss
  stand_made [] f h = tt
  stand_made (s ∷ ss) f h = (record { begun = h.0.begun; own = λ m b. h.0.own m (old_one s.done m f.0 b) }, stand_made ss f.1 h.1)

  makes_body : KeptEnds w now
  makes_body = record {
    ends = record {
      told = k.told;
      free = λ p m b. either (own_or_old p m b) (λ d. subst (λ q. FreeIn now q) (sym d.0) (loads_hold.made_body w x t.told)) (λ o. k.free p (t.free p m o));
      ended = λ p m f. t.ended p m (make_jobs w.promises (BodyEnd x ∷ []) p m f);
      nodes = λ u p m d b. t.nodes u p m d (old_one p m (t.told.nodes u p d) b);
      standing = stand_made w.engine.standing t.told.standing t.standing;
    };
    free = k.free;
    fewer = old_one;
  }
    where
      k : KeptWorld w now
      k = loads_hold.make_body w x t.told

  made_own : IsOwn now (next_promise w.promises) x
  made_own = record {
    free = loads_hold.made_body w x t.told;
    own = λ m b. either (own_or_old (next_promise w.promises) m b) (λ d. d.1) (λ o. absurd (none_next w t m o));
  }

holding : Holding evaluation CallsForBody EndsTold IsPlain IsOwn KeptEnds
holding = record {
  same = λ w t. record { ends = t; free = λ p f. f; fewer = λ p m f b. b };
  on = λ a b. record { ends = b.ends; free = λ p f. b.free p (a.free p f); fewer = λ p m f x. a.fewer p m f (b.fewer p m (a.free p f) x) };
  holds = λ a. a.ends;
  free = λ a p f. record { free = a.free p f.free; none = λ m b. f.none m (a.fewer p m f.free b) };
  node = λ w x p t e. record { free = t.told.nodes x p e; none = λ m b. t.nodes x p m e b };
  put = puts;
  stamp = λ w x t. quiet_kept w (evaluation.add_stamp w x) t (loads_hold.stamp w x t.told) (quiet_same w.promises) refl refl refl;
  make = λ w t. quiet_kept w (evaluation.make_promise w) t (loads_hold.make w t.told) (make_quiet w.promises [] (λ m z. z)) refl refl refl;
  made = λ w t. record {
    free = loads_hold.made w t.told;
    none = λ m b. either (make_bodies w.promises [] (next_promise w.promises) m b) (λ d. d.1) (λ o. none_next w t m o);
  };
  make_body = makes_body;
  made_body = made_own;
  fulfill = λ w p t f. quiet_kept w (evaluation.fulfill w p) t (loads_hold.fulfill w p t.told f.free) (settle_quiet w.promises p (Fulfilled Undefined) f.none) refl refl refl;
  reject = λ w p v t f. quiet_kept w (evaluation.reject w p v) t (loads_hold.reject w p v t.told f.free) (reject_quiet w.promises p v) refl refl refl;
  call = λ t o p. calls_end t o p;
}

-- ---- a body goes on

taken_all : (P : Standing Url → Type 0) (ss : List (Standing Url)) (m : Url) (t : Taken Url) → take_standing same_url ss m ≡ Some t → AllByRecursion P ss → P t.standing × AllByRecursion P t.others
taken_all P [] m t e a = absurd (let n : None ≡ Some t = e in cc)
taken_all P (s ∷ ss) m t e a = by (same_url s.at m) (take_standing same_url ss m) e (λ u f. taken_all P ss m u f a.1)
  where
    by : (b : Bool) (later : Option (Taken Url)) → take_by same_url b s ss later ≡ Some t → ((u : Taken Url) → later ≡ Some u → P u.standing × AllByRecursion P u.others) → P t.standing × AllByRecursion P t.others
    by true later e f =
        let is : ◌≡◌ {A = Taken Url} (record { standing = s; others = ss }) t = some_is e in
        subst (λ (u : Taken Url). P u.standing × AllByRecursion P u.others) is a
    by false None e f = absurd (let n : None ≡ Some t = e in cc)
    by false (Some u) e f =
        let is : ◌≡◌ {A = Taken Url} (record u { others = s ∷ u.others }) t = some_is e in
        let r = f u refl in
        subst (λ (u : Taken Url). P u.standing × AllByRecursion P u.others) is (r.0, (a.0, r.1))

resumes_amid : (v : World) (m : Url) (how : Settled (Value Url)) (end : Result (Unit {0}) Limit) (s : State Url Loading) → EndsTold v → ResumesBody same_url modules_in BeginsImport (body_state v) m how end s → Amid v (whole s)
resumes_amid v m how end s t p =
    let a = taken_all (StandsSo v.promises v.engine.events) v.engine.standing m p.taken p.stands t.standing in
    let q = resumes_well same_url modules_in BeginsImport KeepsQuiet lasts_quiet p in
    let from : Whole Url Loading = ((host_of v, p.taken.others), v.engine.events) in
    let is = taken_is v.engine.standing m p.taken p.stands in
    let k = q.keeps.outer t.told.host t.free in
    let h = amid_late v from q.late [] k.1 q.keeps.standing (q.quiet ∙ sym (append-nil v.engine.events)) (record { bodies = λ x y b. b; jobs = t.ended; standing = a.1 }) in
    amid_end v m p.taken.standing.done q.late (whole s) (segment_free from q.late k t.free)
    (subst (λ es. BegunIn es m) (sym q.quiet) (subst (λ x. BegunIn v.engine.events x) is a.0.begun))
    (λ x b. a.0.own x (k.1.bodies p.taken.standing.done x b) ∙ is) q.ends h

-- ---- jobs

register_length : (o : Option (Promise (Reaction Url) (Value Url))) (ps : Ps) (q : ℕ) (r : Reaction Url) → length (register_by o ps q r).all ≡ length ps.all
register_length None ps q r = refl
register_length (Some (Pending rs)) ps q r = length_set ps.all q (Pending (rs ++ r ∷ []))
register_length (Some (Done how)) ps q r = refl

registered : (w : World) (r : Reaction Url) (a : Result ℕ Limit) → IsOther r → EndsTold w → AreTold (when_evaluated w r a) → EndsTold (when_evaluated w r a)
registered w r (Ok p) n t told =
    quiet_ends w (with_reaction w p r) t told
    (λ q f. record { made = subst (λ k. q < k) (sym (register_length (slice_get w.promises.all p) w.promises p r)) f.made; apart = f.apart })
    (register_quiet w.promises p r n) refl refl refl
registered w r (Err why) n t told = t

settle_free : (l : Loading) (ps : Ps) (q : ℕ) (how : Settled (Value Url)) (p : ℕ) → IsFree l ps p → IsFree l (settle ps q how) p
settle_free l ps q how p f = record { made = subst (λ k. p < k) (sym (length_set ps.all q (Done how))) f.made; apart = f.apart }

linked_ends : (w : World) (ls : List Url) → EndsTold w → EndsTold (with_linked w ls)
linked_ends w ls t = quiet_ends w (with_linked w ls) t (linked_told w ls t.told) (λ p f. f) (quiet_same w.promises) refl refl refl

load_ends : {v after : World} {s : ℕ} {a : Result ℕ Limit} → EvaluatesLoad v s a after → EndsTold v → EndsTold after
load_ends {v} p t = (evaluates_holds evaluation CallsForBody EndsTold IsPlain IsOwn KeptEnds holding (with_linked v p.linked) p.root (linked_ends v p.linked t) p.evaluates).ends

done_other : IsOther EntryDone
done_other m e = cc

evaluated_other : (s : ℕ) → IsOther (Evaluated s)
evaluated_other s m e = cc

resumes_kept : (v : World) (m : Url) (how : Settled (Value Url)) (end : Result (Unit {0}) Limit) (s : State Url Loading) → AreTold v → AreTold (with_state v s) → ResumesBody same_url modules_in BeginsImport (body_state v) m how end s → KeptWorld v (with_state v s)
resumes_kept v m how end s t told p =
    let a = taken_free v.engine.standing m (host_of v) p.taken p.stands t.standing in
    let k = call_told (host_of v) p.taken.others m p.taken.standing.done (around s) t.host a.1 a.0 (resumes_around same_url modules_in BeginsImport KeepsTold lasts_told p) in
    record { told = told; free = k.kept.free; continues = k.kept.continues }

reacts_end : {v : World} {r : Reaction Url} {how : Settled (Value Url)} {w : World} → EndsTold v → AreTold w → Reacts v r how w → EndsTold w
reacts_end t told (entry_linked {after = after} {answer = a} p) = registered after EntryDone a done_other (load_ends p t) told
reacts_end {v} {w = w} t told (entry_fault root f ls l) = quiet_ends v w t told (λ p g. g) (quiet_same v.promises) refl refl refl
reacts_end {v} {w = w} t told entry_refused = quiet_ends v w t told (λ p g. g) (quiet_same v.promises) refl refl refl
reacts_end {v} {w = w} t told entry_ended = quiet_ends v w t told (λ p g. g) (quiet_same v.promises) refl refl refl
reacts_end {v} {w = w} t told entry_threw = quiet_ends v w t told (λ p g. g) (quiet_same v.promises) refl refl refl
reacts_end t told (linked {after = after} {s = s} {answer = a} p) = registered after (Evaluated s) a (evaluated_other s) (load_ends p t) told
reacts_end {v} {w = w} t told (fault q root f ls n l) = quiet_ends v w t told (settle_free v.loading v.promises q _) (reject_quiet v.promises q _) refl refl refl
reacts_end {v} {w = w} t told (refused {v = u} q n) = quiet_ends v w t told (settle_free v.loading v.promises q (Rejected u)) (reject_quiet v.promises q u) refl refl refl
reacts_end {v} {w = w} t told (evaluated {s = s} q root n o) =
    quiet_ends v w t told (settle_free v.loading v.promises q (Fulfilled (Namespace root)))
    (settle_quiet v.promises q (Fulfilled (Namespace root)) (λ m b. (t.free q m b).apart s OfImport n)) refl refl refl
reacts_end {v} {w = w} t told (threw {v = u} q n) = quiet_ends v w t told (settle_free v.loading v.promises q (Rejected u)) (reject_quiet v.promises q u) refl refl refl
reacts_end t told (body_ended p) = (fulfills_holds evaluation CallsForBody EndsTold IsPlain IsOwn KeptEnds holding t p).ends
reacts_end t told (body_threw p) = (rejects_holds evaluation CallsForBody EndsTold IsPlain IsOwn KeptEnds holding t p).ends
reacts_end {v} {how = how} t told (resumes {m = m} {end = end} {s = s} p) = (called v s t (resumes_kept v m how end s t.told told p) (resumes_amid v m how end s t p)).ends

-- a job is taken
pub taken_ends : (w : World) (j : Job (Reaction Url)) (left : Ps) → EndsTold w → next_job w.promises ≡ Some (j, left) → EndsTold (with_promises w left)
taken_ends w j left t e =
    quiet_ends w (with_promises w left) t (taken_told w j left t.told e).0
    (λ p f. record { made = subst (λ (xs : List (Promise (Reaction Url) (Value Url))). p < length xs) (sym (same_rows w.promises left j e)) f.made; apart = f.apart })
    (taken_quiet w.promises left j (takes w.promises left j e)) refl refl refl

pub job_ends : (w after : World) (j : Job (Reaction Url)) (left : Ps) (how : Settled (Value Url)) → EndsTold w → next_job w.promises ≡ Some (j, left) → settled left j.promise ≡ Some how → Reacts (with_promises w left) j.reaction how after → EndsTold after
job_ends w after j left how t e s p = reacts_end (taken_ends w j left t e) (stays_told.reacts w after j left how t.told e s p) p

-- where it is that of the end of a body, and its promise is fulfilled, the body has ended normally
pub job_ended : (w : World) (j : Job (Reaction Url)) (left : Ps) (m : Url) (v : Value Url) → EndsTold w → next_job w.promises ≡ Some (j, left) → j.reaction ≡ BodyEnd m → settled left j.promise ≡ Some (Fulfilled v) → Ended w m
job_ended w j left m v t e r s = t.ended j.promise m (taken_fulfilled w.promises left j m v (takes w.promises left j e) r s)

-- ---- answers, the end of a fetch, and the opening

pub answer_ends : (w : World) (h : Host) → EndsTold w → stopped w ≡ None → AnswersNext (host_of w) h → EndsTold (with_host w h)
answer_ends w h t live q =
    let k = answer_kept w h t.told live q in
    quiet_ends w (with_host w h) t (stays_told.answers w h t.told live q) k.free (next_quiet q k t.free) refl refl refl

pub fetch_ends : (w : World) (d : Delivery) → EndsTold w → IsAllowed w d → EndsTold (fetched w d.url d.outcome)
fetch_ends w d t a =
    let k = fetch_told (host_of w) d.url d.outcome t.told.host (open_asked (stopped w) w.loading d.url a.asked) in
    let same = (fetched_same (nat_lt MAX_DELIVERED_BYTES (w.loading.bytes + bytes_of d.outcome)) (host_of w) d.url d.outcome).promises in
    quiet_ends w (fetched w d.url d.outcome) t (stays_told.fetches w d t.told a) k.free (subst (λ ps. Quiet w.promises ps) (sym same) (quiet_same w.promises)) refl refl refl

pub opening_ends : (maps : Maps) (built : List Item → Bool) (entry : Url) (trace : Bool) → EndsTold (opening maps built entry trace)
opening_ends maps built entry trace = record {
  told = stays_told.opens maps built entry trace;
  free = λ p m b. absurd (none p m b);
  ended = λ p m f. absurd (none p m (BodyAt.waits f.waits));
  nodes = λ u p m d b. none p m b;
  standing = tt;
}
  where
    loaded : (m : Url) → ◌≡◌ {A = Reaction Url} (BodyEnd m) EntryLoaded → ⊥
    loaded m e = cc

    nothing : (p : ℕ) (m : Url) → BodyAt no_promises p m → ⊥
    nothing p m (BodyAt.stands rs e a) = let n : None ≡ Some (Pending rs) = e in cc
    nothing p m (BodyAt.waits a) = a

    none : (p : ℕ) (m : Url) → BodyAt (opening maps built entry trace).promises p m → ⊥
    none p m b = either (make_bodies no_promises (EntryLoaded ∷ []) p m b) (λ d. either d.1 (loaded m) (λ z. z)) (λ o. nothing p m o)
