-- What a call for a body adds to the events, and what evaluation sees of bodies that have ended.
use Rattle.std.proofs.Common.{◌≡◌, ◌⊎◌, inl, inr, ℕ, true, false, [], ◌∷◌, ◌++◌, ap, subst, sym}
use Rattle.std.specs.Prelude.{Result, Ok, Err, ◌||◌}
use Rattle.std.specs.List.{list_any}
use Rattle.esm_base.specs.declared.limits.Limit.{Limit}
use Rattle.esm_base.specs.Urls.{Url, same_url}
use Rattle.esm_realm.proofs.Urls.{or_cases, or_true, same_text}
use Rattle.esm_realm.proofs.Lists.{either}
use Rattle.esm_values.specs.Value.{Value}
use Rattle.esm_values.specs.Ran.{Ran}
use Rattle.esm_values.specs.Ran.{Ran as ran}
use Rattle.esm_promise.specs.Promises.{Settled}
use Rattle.esm_loads.specs.Loading.{Loading}
use Rattle.esm_loads.specs.ImportCall.{BeginsImport}
use Rattle.esm_eval.specs.Nodes.{Call, CallAnswer, Run, module_of}
use Rattle.esm_rewriting.specs.State.{Event, Begins, Ends, Throws, State, begins_at}
use Rattle.esm_rewriting.specs.Bodies.{ResumesBody}
use Rattle.esm_world.specs.World.{World, modules_in, body_state}
use Rattle.esm_world.specs.Layers.{CallsForBody, evaluation}
use Rattle.esm_world.proofs.OuterKeeps.{LastsOuter}
use Rattle.esm_needs_laws.proofs.BodyEvents.{Whole, whole, EndsWell, StartsWell, RunsWell, RanEvents, starts_well, runs_well, resumes_well}
use Rattle.esm_needs_laws.proofs.Moves.{Tells}
use Rattle.esm_needs_laws.proofs.Told.{Events, BegunIn, EndedIn, Ended, begun_last, ended_on, ended_last}

-- what lies outside isn't looked at
any_outer : LastsOuter {N = Url} {I = Loading} BeginsImport (λ o x. Unit {0})
any_outer = record { same = λ o. tt; on = λ p q. tt; errors = λ o es. tt; refuses = λ o es v. tt; imports = λ o x m text r p. tt }

-- ---- events

-- the event is no start
abbrev pub IsEnd : Event Url → Type 0
IsEnd (Begins m) = ⊥
IsEnd (Ends m) = Unit {0}
IsEnd (Throws m) = Unit {0}

-- at most one end was added
pub data EndEvents (es fs : Events) : Type 0 where
  no_end : fs ≡ es → EndEvents es fs
  one_end : (e : Event Url) → IsEnd e → fs ≡ es ++ e ∷ [] → EndEvents es fs

-- nothing was added, or the start of the body, and at most one end behind it
pub data CallEvents (m : Url) (es fs : Events) : Type 0 where
  none : fs ≡ es → CallEvents m es fs
  begun : (late : Events) → late ≡ es ++ Begins m ∷ [] → EndEvents late fs → CallEvents m es fs

ends_events : {m : Url} {done : ℕ} {late w : Whole Url Loading} → EndsWell m done late w → EndEvents late.1 w.1
ends_events (EndsWell.stays e) = EndEvents.no_end (ap (λ (x : Whole Url Loading). x.1) e)
ends_events {m} (EndsWell.fulfilled e) = EndEvents.one_end (Ends m) tt (ap (λ (x : Whole Url Loading). x.1) e)
ends_events {m} (EndsWell.rejected v e) = EndEvents.one_end (Throws m) tt (ap (λ (x : Whole Url Loading). x.1) e)
ends_events (EndsWell.stands v rest e) = EndEvents.no_end (ap (λ (x : Whole Url Loading). x.1) e)

ran_events : (m : Url) (r : Result (Ran (Value Url)) Limit) (late fs : Events) → RanEvents m late r fs → EndEvents late fs
ran_events m (Ok ran.Normal) late fs e = EndEvents.one_end (Ends m) tt e
ran_events m (Ok (ran.Thrown v)) late fs e = EndEvents.one_end (Throws m) tt e
ran_events m (Err why) late fs e = EndEvents.no_end e

pub call_events : {v w : World} {c : Call Url} {r : Result (CallAnswer (Value Url) c) Limit} → CallsForBody v c r w → CallEvents (module_of c) v.engine.events w.engine.events
call_events {v} (CallsForBody.start {m = m} {done = done} {s = s} p) = by (starts_well same_url modules_in BeginsImport (λ o x. Unit {0}) any_outer p)
  where
    by : StartsWell (λ o x. Unit {0}) m done (whole (body_state v)) (whole s) → CallEvents m v.engine.events s.engine.events
    by (StartsWell.stopped e) = CallEvents.none (ap (λ (x : Whole Url Loading). x.1) e)
    by (StartsWell.begun late k e q) = CallEvents.begun late.1 e (ends_events q)
call_events {v} (CallsForBody.run {m = m} {end = r} {s = s} p) = by (runs_well same_url modules_in BeginsImport (λ o x. Unit {0}) any_outer p)
  where
    by : RunsWell (λ o x. Unit {0}) m r (whole (body_state v)) (whole s) → CallEvents m v.engine.events s.engine.events
    by (RunsWell.stopped why k e) = CallEvents.none (ap (λ (x : Whole Url Loading). x.1) e)
    by (RunsWell.begun late k e q) = CallEvents.begun late.1 e (ran_events m r late.1 s.engine.events q.events)

-- a body that goes on begins nothing
pub resume_events : {v w : State Url Loading} {m : Url} {how : Settled (Value Url)} {end : Result (Unit {0}) Limit} → ResumesBody same_url modules_in BeginsImport v m how end w → EndEvents v.engine.events w.engine.events
resume_events {v} {w} p =
    let q = resumes_well same_url modules_in BeginsImport (λ o x. Unit {0}) any_outer p in
    subst (λ es. EndEvents es w.engine.events) q.quiet (ends_events q.ends)

-- ---- what has ended stays so

pub end_keeps : (m : Url) (es fs : Events) → EndEvents es fs → EndedIn es m → EndedIn fs m
end_keeps m es fs (EndEvents.no_end e) h = subst (λ x. EndedIn x m) (sym e) h
end_keeps m es fs (EndEvents.one_end x q e) h = subst (λ x. EndedIn x m) (sym e) (ended_on m es (x ∷ []) h)

call_keeps : (m x : Url) (es fs : Events) → CallEvents m es fs → EndedIn es x → EndedIn fs x
call_keeps m x es fs (CallEvents.none e) h = subst (λ z. EndedIn z x) (sym e) h
call_keeps m x es fs (CallEvents.begun late e q) h = end_keeps x late fs q (subst (λ z. EndedIn z x) (sym e) (ended_on x es (Begins m ∷ []) h))

-- ---- what a call begins

begun_split : (x : Url) (es fs : Events) → BegunIn (es ++ fs) x → BegunIn es x ⊎ BegunIn fs x
begun_split x [] fs h = inr h
begun_split x (e ∷ es) fs h = either (or_cases (begins_at same_url x e) (list_any (begins_at same_url x) (es ++ fs)) h)
    (λ k. inl (first k)) (λ k. either (begun_split x es fs k) (λ a. inl (later a)) (λ b. inr b))
  where
    first : begins_at same_url x e ≡ true → BegunIn (e ∷ es) x
    first k = ap (λ b. b || list_any (begins_at same_url x) es) k

    later : BegunIn es x → BegunIn (e ∷ es) x
    later a = or_true (begins_at same_url x e) (list_any (begins_at same_url x) es) a

begun_end : (x : Url) (e : Event Url) → IsEnd e → BegunIn (e ∷ []) x → ⊥
begun_end x (Begins m) q h = q
begun_end x (Ends m) q h = let k : false ≡ true = h in cc
begun_end x (Throws m) q h = let k : false ≡ true = h in cc

begun_start : (m x : Url) → BegunIn (Begins m ∷ []) x → x ≡ m
begun_start m x h = either (or_cases (same_url x m) false h) (λ k. same_text x m k) (λ k. absurd (let n : false ≡ true = k in cc))

end_others : (x : Url) (es fs : Events) → EndEvents es fs → BegunIn fs x → BegunIn es x
end_others x es fs (EndEvents.no_end e) h = subst (λ z. BegunIn z x) e h
end_others x es fs (EndEvents.one_end y q e) h = either (begun_split x es (y ∷ []) (subst (λ z. BegunIn z x) e h)) (λ k. k) (λ k. absurd (begun_end x y q k))

call_others : (m x : Url) (es fs : Events) → CallEvents m es fs → BegunIn fs x → BegunIn es x ⊎ (x ≡ m)
call_others m x es fs (CallEvents.none e) h = inl (subst (λ z. BegunIn z x) e h)
call_others m x es fs (CallEvents.begun late e q) h = either (begun_split x es (Begins m ∷ []) (subst (λ z. BegunIn z x) e (end_others x late fs q h))) (λ k. inl k) (λ k. inr (begun_start m x k))

-- one that runs to its end without a throw has ended
runs_end : {v w : World} {m : Url} → CallsForBody v (Run m) (Ok ran.Normal) w → Ended w m
runs_end {v} (CallsForBody.run {m = m} {s = s} p) = by (runs_well same_url modules_in BeginsImport (λ o x. Unit {0}) any_outer p)
  where
    by : RunsWell (λ o x. Unit {0}) m (Ok ran.Normal) (whole (body_state v)) (whole s) → EndedIn s.engine.events m
    by (RunsWell.stopped why k e) = absurd (let n : ◌≡◌ {A = Result (Ran (Value Url)) Limit} (Ok ran.Normal) (Err why) = k in cc)
    by (RunsWell.begun late k e q) = subst (λ z. EndedIn z m) (sym q.events) (ended_last m late.1 (subst (λ z. BegunIn z m) (sym e) (begun_last m v.engine.events)))

pub tells : Tells evaluation CallsForBody Ended
tells = record {
  begun = λ w y h. h.1;
  put = λ w x n y h. h;
  stamp = λ w x y h. h;
  make = λ w y h. h;
  make_body = λ w x y h. h;
  fulfill = λ w p y h. h;
  reject = λ w p v y h. h;
  call = λ {w} {v} {c} p y h. call_keeps (module_of c) y w.engine.events v.engine.events (call_events p) h;
  runs = λ p. runs_end p;
  others = λ {w} {v} {c} p x h. call_others (module_of c) x w.engine.events v.engine.events (call_events p) h;
}
