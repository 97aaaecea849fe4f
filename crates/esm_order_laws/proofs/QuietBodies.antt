-- Calls for bodies, where no tree holds an import(): they do the same, however an import() would begin, and leave loading as it is.
use Rattle.std.proofs.Common.{◌≡◌, ℕ, Bool, true, false, List, [], ◌∷◌, ◌++◌, length, nat_lt, Option, Some, None, refl, subst, sym, ◌∙◌}
use Rattle.std.specs.Prelude.{Result, Ok, Err, ⊤, ◌+◌}
use Rattle.esm_base.specs.declared.limits.Limit.{Limit}
use Rattle.esm_base.specs.declared.limits.TheConstants.{MAX_LOG_BYTES}
use Rattle.esm_base.specs.Lists.{IsSameness}
use Rattle.esm_values.specs.Value.{Value, Undefined}
use Rattle.esm_values.specs.Ran.{Ran}
use Rattle.esm_values.specs.Ran.{Ran as ran}
use Rattle.esm_promise.specs.Promises.{Settled, Fulfilled, Rejected}
use Rattle.esm_env.specs.Declarations.{body_of}
use Rattle.esm_env.specs.Modules.{Modules}
use Rattle.esm_rewriting.specs.Rest.{Rest, whole}
use Rattle.esm_rewriting.specs.State.{Event, Begins, Ends, Throws, Standing, State, Importing, AnswerWith, event_line, line_by, event_behind, note_by, note}
use Rattle.esm_rewriting.specs.Segment.{Ended, Normal, Thrown, Awaiting, Stopped, Segment}
use Rattle.esm_rewriting.specs.Bodies.{Taken, behind, take_by, take_standing, settle_done, segment_end, ran_by, body_end, given_by, url_in, StartsBody, RunsBody, ResumesBody}
use Rattle.esm_world.specs.ImportCalls.{holds_import}
use Rattle.esm_world.proofs.OuterKeeps.{LastsOuter, segment_around}
use Rattle.esm_order_laws.proofs.Quiet.{Quiet, QuietRest, whole_quiet, rest_filled, body_quiet}
use Rattle.esm_order_laws.proofs.QuietMoves.{Nowhere, QuietEnd, segments_quiet}

-- the rests of the bodies that stand at an await hold no import()
abbrev pub QuietStanding : {N : Type 0} → List (Standing N) → Type 0
QuietStanding [] = ⊤
QuietStanding (s ∷ ss) = QuietRest s.rest × QuietStanding ss

one_more : {N : Type 0} (ss : List (Standing N)) (s : Standing N) → QuietStanding ss → QuietRest s.rest → QuietStanding (ss ++ s ∷ [])
one_more [] s q r = (r, tt)
one_more (t ∷ ss) s q r = (q.0, one_more ss s q.1 r)

module _ {N : Type 0} (same : N → N → Bool) where
  abbrev QuietTaken : Option (Taken N) → Type 0
  QuietTaken None = ⊤
  QuietTaken (Some t) = QuietRest t.standing.rest × QuietStanding t.others

  behind_quiet : (s : Standing N) (o : Option (Taken N)) → QuietRest s.rest → QuietTaken o → QuietTaken (behind same s o)
  behind_quiet s None q k = tt
  behind_quiet s (Some t) q k = (k.0, (q, k.1))

  by_taken : (b : Bool) (s : Standing N) (ss : List (Standing N)) (o : Option (Taken N)) → QuietRest s.rest → QuietStanding ss → QuietTaken o → QuietTaken (take_by same b s ss o)
  by_taken true s ss o q r k = (q, r)
  by_taken false s ss o q r k = behind_quiet s o q k

  taken_quiet : (ss : List (Standing N)) (m : N) → QuietStanding ss → QuietTaken (take_standing same ss m)
  taken_quiet [] m q = tt
  taken_quiet (s ∷ ss) m q = by_taken (same s.at m) s ss (take_standing same ss m) q.0 q.1 (taken_quiet ss m q.1)

given_quiet : {N : Type 0} (how : Settled (Value N)) → Quiet (given_by how)
given_quiet (Fulfilled v) = tt
given_quiet (Rejected v) = tt

-- nothing of loading changes where no import() begins
still : {N I : Type 0} → LastsOuter {N = N} {I = I} Nowhere (λ o x. x.imports ≡ o.imports)
still = record { same = λ o. refl; on = λ p q. q ∙ p; errors = λ o es. refl; refuses = λ o es v. refl; imports = λ o x m text r b. absurd b }

module _ {N I : Type 0} (same : N → N → Bool) (modules : I → Modules N) (begins : Importing N I) (Good : I → Type 0)
    (trees : (i : I) → Good i → (m : N) → holds_import ((modules i).tree m) ≡ false) (sameness : IsSameness same) where
  -- the bodies that stand hold no import(), and the modules are such
  abbrev pub Calm : State N I → Type 0
  Calm w = QuietStanding w.engine.standing × Good w.outer.imports

  abbrev Told : {A : Type 0} → AnswerWith A (State N I) → Type 0
  Told a = Calm a.1

  line_calm : (w : State N I) → Calm w → (e : Event N) (text : List ℕ) (b : Bool) → Told (event_behind e (line_by b w text))
  line_calm w g e text true = g
  line_calm w g e text false = g

  note_calm : (url : N → List ℕ) (w : State N I) → Calm w → (e : Event N) (b : Bool) → Told (note_by b url w e)
  note_calm url w g e true = line_calm w g e (event_line url e) (nat_lt MAX_LOG_BYTES (length w.engine.log + length (event_line url e) + 1))
  note_calm url w g e false = g

  noted : (url : N → List ℕ) (w : State N I) → Calm w → (e : Event N) → Told (note url w e)
  noted url w g e = note_calm url w g e w.engine.trace

  done_calm : (p : ℕ) (how : Settled (Value N)) (a : AnswerWith (Unit {0}) (State N I)) → Told a → Told (settle_done p how a)
  done_calm p how (Ok done, w) g = g
  done_calm p how (Err why, w) g = g

  end_calm : (url : N → List ℕ) (m : N) (done : ℕ) (how : Ended N) (w : State N I) → QuietEnd how → Calm w → Told (segment_end url m done how w)
  end_calm url m done Normal w q g = done_calm done (Fulfilled Undefined) (note url w (Ends m)) (noted url w g (Ends m))
  end_calm url m done (Thrown v) w q g = done_calm done (Rejected v) (note url w (Throws m)) (noted url w g (Throws m))
  end_calm url m done (Awaiting v rest) w q g = (one_more w.engine.standing (record { at = m; done = done; rest = rest }) g.0 q, g.1)
  end_calm url m done (Stopped why) w q g = g

  abbrev RanTold : Option (AnswerWith (Ran (Value N)) (State N I)) → Type 0
  RanTold None = ⊤
  RanTold (Some a) = Calm a.1

  ran_calm : (how : Ran (Value N)) (a : AnswerWith (Unit {0}) (State N I)) → Told a → RanTold (ran_by how a)
  ran_calm how (Ok done, w) g = g
  ran_calm how (Err why, w) g = g

  body_calm : (url : N → List ℕ) (m : N) (how : Ended N) (w : State N I) → Calm w → RanTold (body_end url m how w)
  body_calm url m Normal w g = ran_calm ran.Normal (note url w (Ends m)) (noted url w g (Ends m))
  body_calm url m (Thrown v) w g = ran_calm (ran.Thrown v) (note url w (Throws m)) (noted url w g (Throws m))
  body_calm url m (Awaiting v rest) w g = tt
  body_calm url m (Stopped why) w g = g

  -- a segment from such a state leaves such a state
  record Runs (mid : State N I) (m : N) (r : Rest (Value N)) (how : Ended N) (late : State N I) : Type 0 where
    segment : Segment same modules Nowhere mid m r [] how late
    end : QuietEnd how
    calm : Calm late

  runs : {mid late : State N I} {m : N} {r : Rest (Value N)} {how : Ended N} → Calm mid → QuietRest r → Segment same modules begins mid m r [] how late → Runs mid m r how late
  runs g q p =
      let k = segments_quiet same modules begins Good trees sameness g.1 q tt p in
      let a = segment_around same modules Nowhere (λ o x. x.imports ≡ o.imports) still k.0 in
      record { segment = k.0; end = k.1; calm = (subst QuietStanding (sym a.standing) g.0, subst Good (sym a.outer) g.1) }

  -- the body of a module from its start
  whole_calm : (i : I) → Good i → (m : N) → QuietRest {V = Value N} (whole (body_of ((modules i).tree m)))
  whole_calm i g m = whole_quiet (Value N) (body_of ((modules i).tree m)) (body_quiet ((modules i).tree m) (trees i g m))

  pub starts_quiet : {w after : State N I} {m : N} {done : ℕ} {end : Result (Unit {0}) Limit} → Calm w → StartsBody same modules begins w m done end after
      → StartsBody same modules Nowhere w m done end after × Calm after
  starts_quiet {w} {m = m} g (StartsBody.stopped h) = (StartsBody.stopped h, subst Told h (noted (url_in same modules begins w) w g (Begins m)))
  starts_quiet {w} {m = m} {done = done} g (StartsBody.segment {late = late} {how = how} h p e) =
      let r = runs (subst Told h (noted (url_in same modules begins w) w g (Begins m))) (whole_calm w.outer.imports g.1 m) p in
      (StartsBody.segment h r.segment e, subst Told e (end_calm (url_in same modules begins w) m done how late r.end r.calm))

  pub runs_quiet : {w after : State N I} {m : N} {end : Result (Ran (Value N)) Limit} → Calm w → RunsBody same modules begins w m end after
      → RunsBody same modules Nowhere w m end after × Calm after
  runs_quiet {w} {m = m} g (RunsBody.stopped h) = (RunsBody.stopped h, subst Told h (noted (url_in same modules begins w) w g (Begins m)))
  runs_quiet {w} {m = m} g (RunsBody.segment {late = late} {how = how} h p e) =
      let r = runs (subst Told h (noted (url_in same modules begins w) w g (Begins m))) (whole_calm w.outer.imports g.1 m) p in
      (RunsBody.segment h r.segment e, subst RanTold e (body_calm (url_in same modules begins w) m how late r.calm))

  pub resumes_quiet : {w after : State N I} {m : N} {how : Settled (Value N)} {end : Result (Unit {0}) Limit} → Calm w → ResumesBody same modules begins w m how end after
      → ResumesBody same modules Nowhere w m how end after × Calm after
  resumes_quiet {w} {m = m} {how = how} g p =
      let t = subst (QuietTaken same) p.stands (taken_quiet same w.engine.standing m g.0) in
      let r = runs (t.1, g.1) (rest_filled (given_by how) (given_quiet how) p.taken.standing.rest t.0) p.runs in (
        record { taken = p.taken; ended = p.ended; late = p.late; stands = p.stands; runs = r.segment; ends = p.ends },
        subst Told p.ends (end_calm (url_in same modules begins w) m p.taken.standing.done p.ended p.late r.end r.calm),
      )
