-- The events of bodies: a call for a body notes its start and its end.
use Rattle.std.proofs.Common.{◌≡◌, ℕ, Bool, true, false, List, [], ◌∷◌, Option, Some, None, refl, ap, subst, ◌∙◌}
use Rattle.std.specs.Prelude.{Result, Ok, Err, ◌++◌}
use Rattle.esm_base.specs.declared.limits.Limit.{Limit}
use Rattle.esm_values.specs.Value.{Value, Undefined}
use Rattle.esm_values.specs.Ran.{Ran}
use Rattle.esm_values.specs.Ran.{Ran as ran}
use Rattle.esm_promise.specs.Promises.{Settled, Fulfilled, Rejected}
use Rattle.esm_env.specs.Modules.{Modules}
use Rattle.esm_promise.specs.Outer.{Outer}
use Rattle.esm_rewriting.specs.Rest.{Rest}
use Rattle.esm_rewriting.specs.State.{Event, Begins, Ends, Throws, State, Importing, AnswerWith, add_line, note, note_by, event_behind, event_line}
use Rattle.esm_rewriting.specs.Segment.{Ended, Normal, Thrown, Awaiting, Stopped}
use Rattle.esm_rewriting.specs.Bodies.{StartsBody, RunsBody, ResumesBody, await_on, segment_end, settle_done, body_end, ran_by, url_in}
use Rattle.esm_world.proofs.EventsKept.{Events, line_keeps, runs_keep}
use Rattle.esm_world.proofs.OuterKeeps.{Around, around, settles, noted, LastsOuter, KeepsAround, segment_around}

-- ---- how a call for a body ends

-- promises, errors and imports, the bodies that stand, and the events
abbrev pub Whole : Type 0 → Type 0 → Type 0
Whole N I = Around N I × List (Event N)

-- these are the events where one was noted, or a limit stopped its line
abbrev Noted : {N : Type 0} → Events N → Event N → Result (Unit {0}) Limit → Events N → Type 0
Noted es e (Ok done) fs = fs ≡ es ++ e ∷ []
Noted es e (Err limit) fs = fs ≡ es

-- and those where a body that doesn't await has ended
abbrev pub RanEvents : {N : Type 0} → N → Events N → Result (Ran (Value N)) Limit → Events N → Type 0
RanEvents m es (Ok ran.Normal) fs = fs ≡ es ++ Ends m ∷ []
RanEvents m es (Ok (ran.Thrown v)) fs = fs ≡ es ++ Throws m ∷ []
RanEvents m es (Err limit) fs = fs ≡ es

module _ {N I : Type 0} where
  abbrev pub whole : State N I → Whole N I
  whole w = (around w, w.engine.events)

  abbrev pub told_whole : {A : Type 0} → AnswerWith A (State N I) → Whole N I
  told_whole t = whole t.1

  behind_noted : (e : Event N) (es : Events N) (r : Result (Unit {0}) Limit) (u : State N I) → u.engine.events ≡ es → Noted es e (event_behind e (r, u)).0 (event_behind e (r, u)).1.engine.events
  behind_noted e es (Ok done) u h = ap (λ fs. fs ++ e ∷ []) h
  behind_noted e es (Err limit) u h = h

  noted_by : (url : N → List ℕ) (w : State N I) (e : Event N) (b : Bool) → Noted w.engine.events e (note_by b url w e).0 (note_by b url w e).1.engine.events
  noted_by url w e true = let t = add_line w (event_line url e) in behind_noted e w.engine.events t.0 t.1 (line_keeps w (event_line url e))
  noted_by url w e false = refl

  note_noted : (url : N → List ℕ) (w : State N I) (e : Event N) → Noted w.engine.events e (note url w e).0 (note url w e).1.engine.events
  note_noted url w e = noted_by url w e w.engine.trace

  -- what the end of a segment leaves
  pub data EndsWell (m : N) (done : ℕ) (late w : Whole N I) : Type 0 where
    stays : w ≡ late → EndsWell m done late w
    fulfilled : w ≡ ((settles late.0.0 done (Fulfilled Undefined), late.0.1), late.1 ++ Ends m ∷ []) → EndsWell m done late w
    rejected : (v : Value N) → w ≡ ((settles late.0.0 done (Rejected v), late.0.1), late.1 ++ Throws m ∷ []) → EndsWell m done late w
    stands : (v : Value N) (rest : Rest (Value N))
        → w ≡ ((record late.0.0 { promises = await_on late.0.0.promises v m }, late.0.1 ++ record { at = m; done = done; rest = rest } ∷ []), late.1)
        → EndsWell m done late w

  -- where the event is noted the promise is settled
  done_well : (m : N) (p : ℕ) (r : Result (Unit {0}) Limit) (u w : State N I) → around u ≡ around w → Noted w.engine.events (Ends m) r u.engine.events
      → EndsWell m p (whole w) (told_whole (settle_done p (Fulfilled Undefined) (r, u)))
  done_well m p (Ok noted) u w e h = EndsWell.fulfilled (λ i. ((settles (e i).0 p (Fulfilled Undefined), (e i).1), h i))
  done_well m p (Err why) u w e h = EndsWell.stays (λ i. (e i, h i))

  throw_well : (m : N) (p : ℕ) (v : Value N) (r : Result (Unit {0}) Limit) (u w : State N I) → around u ≡ around w → Noted w.engine.events (Throws m) r u.engine.events
      → EndsWell m p (whole w) (told_whole (settle_done p (Rejected v) (r, u)))
  throw_well m p v (Ok noted) u w e h = EndsWell.rejected v (λ i. ((settles (e i).0 p (Rejected v), (e i).1), h i))
  throw_well m p v (Err why) u w e h = EndsWell.stays (λ i. (e i, h i))

  segment_well : (url : N → List ℕ) (m : N) (p : ℕ) (how : Ended N) (w : State N I) → EndsWell m p (whole w) (told_whole (segment_end url m p how w))
  segment_well url m p Normal w = let t = note url w (Ends m) in done_well m p t.0 t.1 w (noted url w (Ends m) t refl) (note_noted url w (Ends m))
  segment_well url m p (Thrown v) w = let t = note url w (Throws m) in throw_well m p v t.0 t.1 w (noted url w (Throws m) t refl) (note_noted url w (Throws m))
  segment_well url m p (Awaiting v rest) w = EndsWell.stands v rest refl
  segment_well url m p (Stopped why) w = EndsWell.stays refl

  pub record RanWell (m : N) (r : Result (Ran (Value N)) Limit) (late w : Whole N I) : Type 0 where
    pub same : w.0 ≡ late.0
    pub events : RanEvents m late.1 r w.1

  abbrev IfRan : N → Whole N I → Option (AnswerWith (Ran (Value N)) (State N I)) → Type 0
  IfRan m late None = Unit {0}
  IfRan m late (Some t) = RanWell m t.0 late (told_whole t)

  normal_ran : (m : N) (r : Result (Unit {0}) Limit) (u w : State N I) → around u ≡ around w → Noted w.engine.events (Ends m) r u.engine.events → IfRan m (whole w) (ran_by ran.Normal (r, u))
  normal_ran m (Ok noted) u w e h = record { same = e; events = h }
  normal_ran m (Err why) u w e h = record { same = e; events = h }

  thrown_ran : (m : N) (v : Value N) (r : Result (Unit {0}) Limit) (u w : State N I) → around u ≡ around w → Noted w.engine.events (Throws m) r u.engine.events → IfRan m (whole w) (ran_by (ran.Thrown v) (r, u))
  thrown_ran m v (Ok noted) u w e h = record { same = e; events = h }
  thrown_ran m v (Err why) u w e h = record { same = e; events = h }

  body_ran : (url : N → List ℕ) (m : N) (how : Ended N) (w : State N I) → IfRan m (whole w) (body_end url m how w)
  body_ran url m Normal w = let t = note url w (Ends m) in normal_ran m t.0 t.1 w (noted url w (Ends m) t refl) (note_noted url w (Ends m))
  body_ran url m (Thrown v) w = let t = note url w (Throws m) in thrown_ran m v t.0 t.1 w (noted url w (Throws m) t refl) (note_noted url w (Throws m))
  body_ran url m (Awaiting v rest) w = tt
  body_ran url m (Stopped why) w = record { same = refl; events = refl }

  -- a start that is told or stopped
  begun_events : (w : State N I) (m : N) (url : N → List ℕ) {mid : State N I} → note url w (Begins m) ≡ (Ok tt, mid) → mid.engine.events ≡ w.engine.events ++ Begins m ∷ []
  begun_events w m url e = subst (λ (t : AnswerWith (Unit {0}) (State N I)). Noted w.engine.events (Begins m) t.0 t.1.engine.events) e (note_noted url w (Begins m))

  stopped_events : (w : State N I) (m : N) (url : N → List ℕ) {why : Limit} {mid : State N I} → note url w (Begins m) ≡ (Err why, mid) → mid.engine.events ≡ w.engine.events
  stopped_events w m url e = subst (λ (t : AnswerWith (Unit {0}) (State N I)). Noted w.engine.events (Begins m) t.0 t.1.engine.events) e (note_noted url w (Begins m))

-- a body is started: a limit stops its first line, or it begins, and what the relation keeps is so up to its end
pub data StartsWell {N I : Type 0} (Keep : Outer N I → Outer N I → Type 0) (m : N) (done : ℕ) (v w : Whole N I) : Type 0 where
  stopped : w ≡ v → StartsWell Keep m done v w
  begun : (late : Whole N I) → KeepsAround Keep v.0 late.0 → late.1 ≡ v.1 ++ Begins m ∷ [] → EndsWell m done late w → StartsWell Keep m done v w

-- the same of one that runs to its end
pub data RunsWell {N I : Type 0} (Keep : Outer N I → Outer N I → Type 0) (m : N) (r : Result (Ran (Value N)) Limit) (v w : Whole N I) : Type 0 where
  stopped : (why : Limit) → r ≡ Err why → w ≡ v → RunsWell Keep m r v w
  begun : (late : Whole N I) → KeepsAround Keep v.0 late.0 → late.1 ≡ v.1 ++ Begins m ∷ [] → RanWell m r late w → RunsWell Keep m r v w

-- and of one that goes on, where these others stand
pub record ResumesWell {N I : Type 0} (Keep : Outer N I → Outer N I → Type 0) (m : N) (done : ℕ) (v w : Whole N I) : Type 0 where
  pub late : Whole N I
  pub keeps : KeepsAround Keep v.0 late.0
  pub quiet : late.1 ≡ v.1
  pub ends : EndsWell m done late w

module _ {N I : Type 0} (same : N → N → Bool) (modules : I → Modules N) (begins : Importing N I) (Keep : Outer N I → Outer N I → Type 0) (k : LastsOuter begins Keep) where
  -- the same around is kept
  from : {a b c : Around N I} → b ≡ a → KeepsAround Keep b c → KeepsAround Keep a c
  from {c = c} e q = subst (λ x. KeepsAround Keep x c) e q

  pub starts_well : {v : State N I} {m : N} {done : ℕ} {a : Result (Unit {0}) Limit} {w : State N I} → StartsBody same modules begins v m done a w → StartsWell Keep m done (whole v) (whole w)
  starts_well {v} {m = m} (StartsBody.stopped h) =
      let url = url_in same modules begins v in
      let e = noted url v (Begins m) _ h in
      let f = stopped_events v m url h in
      StartsWell.stopped (λ i. (e i, f i))
  starts_well {v} {m = m} {done = done} {w = w} (StartsBody.segment {late = late} {how = how} h p e) =
      let url = url_in same modules begins v in
      StartsWell.begun (whole late)
      (from (noted url v (Begins m) _ h) (segment_around same modules begins Keep k p))
      (runs_keep same modules begins p ∙ begun_events v m url h)
      (subst (λ (t : AnswerWith (Unit {0}) (State N I)). EndsWell m done (whole late) (told_whole t)) e (segment_well url m done how late))

  pub runs_well : {v : State N I} {m : N} {r : Result (Ran (Value N)) Limit} {w : State N I} → RunsBody same modules begins v m r w → RunsWell Keep m r (whole v) (whole w)
  runs_well {v} {m = m} (RunsBody.stopped {why = why} h) =
      let url = url_in same modules begins v in
      let e = noted url v (Begins m) _ h in
      let f = stopped_events v m url h in
      RunsWell.stopped why refl (λ i. (e i, f i))
  runs_well {v} {m = m} {w = w} (RunsBody.segment {late = late} {how = how} h p e) =
      let url = url_in same modules begins v in
      RunsWell.begun (whole late)
      (from (noted url v (Begins m) _ h) (segment_around same modules begins Keep k p))
      (runs_keep same modules begins p ∙ begun_events v m url h)
      (subst (λ o. IfRan m (whole late) o) e (body_ran url m how late))

  pub resumes_well : {v : State N I} {m : N} {how : Settled (Value N)} {a : Result (Unit {0}) Limit} {w : State N I} → (p : ResumesBody same modules begins v m how a w)
      → ResumesWell Keep m p.taken.standing.done ((v.outer, p.taken.others), v.engine.events) (whole w)
  resumes_well {v} {m = m} p = record {
    late = whole p.late;
    keeps = segment_around same modules begins Keep k p.runs;
    quiet = runs_keep same modules begins p.runs;
    ends = subst (λ (t : AnswerWith (Unit {0}) (State N I)). EndsWell m p.taken.standing.done (whole p.late) (told_whole t)) p.ends
        (segment_well (url_in same modules begins v) m p.taken.standing.done p.ended p.late);
  }
