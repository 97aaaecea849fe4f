-- A call for a body that a limit stops leaves a state that is stopped.
use Rattle.std.proofs.Common.{◌≡◌, ℕ, ◌+◌, Bool, true, false, List, [], ◌∷◌, Option, Some, None, subst, sym}
use Rattle.std.specs.Prelude.{Result, Ok, Err, nat_lt, length}
use Rattle.esm_base.specs.declared.limits.Limit.{Limit}
use Rattle.esm_base.specs.declared.limits.TheConstants.{MAX_STEPS, MAX_LOG_BYTES, MAX_CALL_DEPTH}
use Rattle.esm_values.specs.Value.{Value, Undefined, Truth, Text, Func, Error, Namespace, Promise}
use Rattle.esm_values.specs.Ran.{Ran}
use Rattle.esm_values.specs.Display.{printed_line}
use Rattle.esm_values.specs.Completion.{Completion}
use Rattle.esm_values.specs.Acts.{Act, AnswerTo}
use Rattle.esm_values.specs.Acts.{Act as act}
use Rattle.esm_values.specs.Plans.{Rewritten as comes}
use Rattle.esm_values.specs.Operators.{values, text_of}
use Rattle.esm_promise.specs.Promises.{Settled, next_promise}
use Rattle.esm_promise.specs.Outer.{Outer}
use Rattle.esm_env.specs.Modules.{Modules}
use Rattle.esm_env.specs.Cells.{Reading}
use Rattle.esm_env.specs.Cells.{Reading as reading}
use Rattle.esm_rewriting.specs.Rest.{Rest}
use Rattle.esm_tree.specs.Syntax.{Stmts}
use Rattle.esm_rewriting.specs.State.{Event, Begins, Ends, Throws, State, Importing, AnswerWith, stop, steps_by, add_line, line_by, note, note_by, event_behind, event_line}
use Rattle.esm_rewriting.specs.Acts.{Inner, Performs, AnswersAct, ReadsMemberOf, BeginsBy, read_answer, import_answer, with_outer, with_promise, modules_of}
use Rattle.esm_rewriting.specs.BodyRewriting.{RewrittenBody, On, Gives, Waits, RewritesBody, own_url, within, caught, wrote}
use Rattle.esm_rewriting.specs.BodyRewriting.RewritesBody.{begins_at, does, drops, sets, writes, throws, returns, prints, chooses, awaits, inner, inner_end, tries, tries_end}
use Rattle.esm_rewriting.specs.Segment.{Active, Ended, Normal, Thrown, Awaiting, Stopped, Next, Goes, Over, Segment, next_by, call_by, called}
use Rattle.esm_rewriting.specs.Segment.{Segment as segment}
use Rattle.esm_rewriting.specs.Bodies.{StartsBody, RunsBody, ResumesBody, segment_end, settle_done, body_end, ran_by, url_in}
use Rattle.esm_world.proofs.ExprStops.{Never, StopsAs, StopsBy, inside_stop, follows_stop, rewrites_stop}

-- what follows a stop, of imports and of the engine
pub record StopsState {N I : Type 0} (begins : Importing N I) (P : State N I → Type 0) : Type 0 where
  pub stops : (w : State N I) (limit : Limit) → P (stop w limit)
  pub begin : {o x : Outer N I} {m : N} {text : List ℕ} {p : ℕ} {limit : Limit} → begins o m text p (Err limit) x → (w : State N I) → P (with_outer w x)

module _ {N I : Type 0} (P : State N I → Type 0) where
  -- a limit is told only where this holds
  abbrev pub StopsTold : {A : Type 0} → Result A Limit → State N I → Type 0
  StopsTold (Ok a) w = Unit {0}
  StopsTold (Err limit) w = P w

  abbrev OfTold : {A : Type 0} → AnswerWith A (State N I) → Type 0
  OfTold t = StopsTold t.0 t.1

  abbrev OfInner : {A : Type 0} → AnswerWith A (Inner N I) → Type 0
  OfInner t = StopsTold t.0 t.1.state

module _ {N I : Type 0} (begins : Importing N I) (P : State N I → Type 0) (k : StopsState begins P) where
  by_steps : (w : State N I) (n : ℕ) (b : Bool) → OfTold P (steps_by b w n)
  by_steps w n true = k.stops w _
  by_steps w n false = tt

  by_line : (w : State N I) (text : List ℕ) (b : Bool) → OfTold P (line_by b w text)
  by_line w text true = k.stops w _
  by_line w text false = tt

  behind : (event : Event N) (r : Result (Unit {0}) Limit) (w : State N I) → StopsTold P r w → OfTold P (event_behind event (r, w))
  behind event (Ok done) w h = tt
  behind event (Err limit) w h = h

  by_note : (url : N → List ℕ) (w : State N I) (event : Event N) (b : Bool) → OfTold P (note_by b url w event)
  by_note url w event true =
      let t = add_line w (event_line url event) in
      behind event t.0 t.1 (by_line w (event_line url event) (nat_lt MAX_LOG_BYTES (length w.engine.log + length (event_line url event) + 1)))
  by_note url w event false = tt

  note_stop : (url : N → List ℕ) (w : State N I) (event : Event N) → OfTold P (note url w event)
  note_stop url w event = by_note url w event w.engine.trace

  by_done : (p : ℕ) (how : Settled (Value N)) (r : Result (Unit {0}) Limit) (w : State N I) → StopsTold P r w → OfTold P (settle_done p how (r, w))
  by_done p how (Ok noted) w h = tt
  by_done p how (Err why) w h = h

  -- a segment that a limit stopped
  abbrev OfEnd : Ended N → State N I → Type 0
  OfEnd Normal w = Unit {0}
  OfEnd (Thrown v) w = Unit {0}
  OfEnd (Awaiting v rest) w = Unit {0}
  OfEnd (Stopped why) w = P w

  segment_stop : (url : N → List ℕ) (m : N) (p : ℕ) (how : Ended N) (w : State N I) → OfEnd how w → OfTold P (segment_end url m p how w)
  segment_stop url m p Normal w h = let t = note url w (Ends m) in by_done p _ t.0 t.1 (note_stop url w (Ends m))
  segment_stop url m p (Thrown v) w h = let t = note url w (Throws m) in by_done p _ t.0 t.1 (note_stop url w (Throws m))
  segment_stop url m p (Awaiting v rest) w h = tt
  segment_stop url m p (Stopped why) w h = h

  abbrev OfRan : Option (AnswerWith (Ran (Value N)) (State N I)) → Type 0
  OfRan None = Unit {0}
  OfRan (Some t) = OfTold P t

  by_ran : (how : Ran (Value N)) (r : Result (Unit {0}) Limit) (w : State N I) → StopsTold P r w → OfRan (ran_by how (r, w))
  by_ran how (Ok noted) w h = tt
  by_ran how (Err why) w h = h

  body_stop : (url : N → List ℕ) (m : N) (how : Ended N) (w : State N I) → OfEnd how w → OfRan (body_end url m how w)
  body_stop url m Normal w h = let t = note url w (Ends m) in by_ran _ t.0 t.1 (note_stop url w (Ends m))
  body_stop url m (Thrown v) w h = let t = note url w (Throws m) in by_ran _ t.0 t.1 (note_stop url w (Throws m))
  body_stop url m (Awaiting v rest) w h = tt
  body_stop url m (Stopped why) w h = h

  module _ (same : N → N → Bool) (modules : I → Modules N) where
    module _ (m : N) where
      of_told : {A : Type 0} {t u : AnswerWith A (Inner N I)} → t ≡ u → OfInner P u → OfInner P t
      of_told e h = subst (λ t. OfInner P t) (sym e) h

      read_stop : (w : Inner N I) (x : List ℕ) (r : Reading (Value N)) → OfInner P (read_answer w x r)
      read_stop w x (reading.Value v) = tt
      read_stop w x reading.Unset = tt
      read_stop w x reading.Undeclared = tt

      member_stop : (w : Inner N I) (v : Value N) (x : List ℕ) (t : AnswerWith (Completion (Value N)) (Inner N I)) → ReadsMemberOf same modules begins m w v x t → OfInner P t
      member_stop w Undefined x t p = of_told p tt
      member_stop w (Truth b) x t p = of_told p tt
      member_stop w (Text s) x t p = of_told p tt
      member_stop w (Func n i) x t p = of_told p tt
      member_stop w (Error i) x t p = of_told p tt
      member_stop w (Namespace n) x t p = of_told p.2 (read_stop w x p.0)
      member_stop w (Promise i) x t p = of_told p tt

      import_stop : (w : Inner N I) (text : List ℕ) (p : ℕ) (end : Result (Unit {0}) Limit) (after : Outer N I) → begins (with_promise w.state).outer m text p end after → StopsTold P (import_answer {N = N} p end) (with_outer w.state after)
      import_stop w text p (Ok done) after b = tt
      import_stop w text p (Err limit) after b = k.begin b w.state

      begin_stop : (w : Inner N I) (text : Option (List ℕ)) (t : AnswerWith (Value N) (Inner N I)) → BeginsBy same modules begins m w text t → OfInner P t
      begin_stop w None t p = of_told p tt
      begin_stop w (Some text) t p = of_told p.3 (import_stop w text (next_promise w.state.outer.promises) p.0 p.1 p.2)

      tells_stop : (w : Inner N I) (a : Act (Value N)) (t : AnswerWith (AnswerTo a) (Inner N I)) → AnswersAct same modules begins m w a t → OfInner P t
      tells_stop w (act.Read x) t p = of_told p.2 (read_stop w x p.0)
      tells_stop w (act.Member of x) t p = member_stop w of x t p
      tells_stop w (act.Display of) t p = of_told p.2 tt
      tells_stop w (act.Print vs) t p = of_told p.2 (by_line w.state (printed_line p.0) (nat_lt MAX_LOG_BYTES (length w.state.engine.log + length (printed_line p.0) + 1)))
      tells_stop w (act.Fault kind message) t p = of_told p tt
      tells_stop w (act.Step steps) t p = of_told p (by_steps w.state steps (nat_lt MAX_STEPS (w.state.engine.steps + steps)))
      tells_stop w (act.Import of) t p = begin_stop w (text_of w.state.outer.errors of) t p

      abbrev PInner : Limit → Inner N I → Type 0
      PInner limit w = P w.state

      acts_stop : StopsBy (Performs same modules begins m) PInner
      acts_stop = record { call = λ {v} {w} {a} {why} p. tells_stop v a (Err why, w) p }

      abbrev OfMove : RewrittenBody (Value N) Limit → State N I → Type 0
      OfMove (On (comes.Goes r)) w = Unit {0}
      OfMove (On (comes.Leaves v)) w = Unit {0}
      OfMove (On (comes.Calls f vs r)) w = Unit {0}
      OfMove (On (comes.Stops why)) w = P w
      OfMove (Gives v) w = Unit {0}
      OfMove (Waits v r) w = Unit {0}

      move_of : (c : comes (Value N) Limit (Rest (Value N))) (w : Inner N I) → StopsAs PInner c w → OfMove (On c) w.state
      move_of (comes.Goes r) w h = tt
      move_of (comes.Leaves v) w h = tt
      move_of (comes.Calls f vs r) w h = tt
      move_of (comes.Stops why) w h = h

      within_stop : (f : Rest (Value N) → Rest (Value N)) (move : RewrittenBody (Value N) Limit) (w : State N I) → OfMove move w → OfMove (within f move) w
      within_stop f (On (comes.Goes r)) w h = tt
      within_stop f (On (comes.Leaves v)) w h = tt
      within_stop f (On (comes.Calls g vs r)) w h = tt
      within_stop f (On (comes.Stops why)) w h = h
      within_stop f (Gives v) w h = tt
      within_stop f (Waits v r) w h = tt

      caught_stop : (x : Option (List ℕ)) (handler : Stmts) (rest : Rest (Value N)) (move : RewrittenBody (Value N) Limit) (w : State N I) → OfMove move w → OfMove (caught x handler rest move) w
      caught_stop x handler rest (On (comes.Goes r)) w h = tt
      caught_stop x handler rest (On (comes.Leaves v)) w h = tt
      caught_stop x handler rest (On (comes.Calls g vs r)) w h = tt
      caught_stop x handler rest (On (comes.Stops why)) w h = h
      caught_stop x handler rest (Gives v) w h = tt
      caught_stop x handler rest (Waits v r) w h = tt

      wrote_stop : (rest : Rest (Value N)) (o : Option (Value N)) (w : State N I) → OfMove (wrote rest o) w
      wrote_stop rest None w = tt
      wrote_stop rest (Some v) w = tt

      moves_stop : {v : Inner N I} {r : Rest (Value N)} {move : RewrittenBody (Value N) Limit} {w : Inner N I} → RewritesBody same modules begins m v r move w → OfMove move w.state
      moves_stop {w = w} (begins_at {c = c} p) = move_of c w (follows_stop (Performs same modules begins m) PInner acts_stop (Never.asks (λ r. Never.ends tt)) p)
      moves_stop {w = w} (does {c = c} s) = move_of _ w (inside_stop (Performs same modules begins m) PInner acts_stop _ w c (rewrites_stop (Performs same modules begins m) PInner acts_stop (values same) (own_url same modules begins m) s))
      moves_stop drops = tt
      moves_stop sets = tt
      moves_stop {w = w} (writes {rest = rest}) = wrote_stop rest _ w.state
      moves_stop throws = tt
      moves_stop returns = tt
      moves_stop {w = w} (prints {c = c} p) = move_of c w (follows_stop (Performs same modules begins m) PInner acts_stop (Never.asks (λ r. Never.asks (λ r. Never.ends tt))) p)
      moves_stop chooses = tt
      moves_stop awaits = tt
      moves_stop {w = w} (inner {move = move} p) = within_stop _ move w.state (moves_stop p)
      moves_stop inner_end = tt
      moves_stop {w = w} (tries {rest = rest} {x = x} {handler = handler} {move = move} p) = caught_stop x handler rest move w.state (moves_stop p)
      moves_stop tries_end = tt

    abbrev OfNext : Option (Next N I) → Type 0
    OfNext None = Unit {0}
    OfNext (Some (Goes m s callers w)) = Unit {0}
    OfNext (Some (Over how w)) = OfEnd how w

    by_call : (b : Bool) (m : N) (s : Rest (Value N)) (cs : List (Active N)) (w : State N I) (callee : Option (Active N)) → OfNext (call_by same modules begins b m s cs w callee)
    by_call true m s cs w (Some c) = tt
    by_call true m s cs w None = tt
    by_call false m s cs w callee = tt

    next_stop : (m : N) (cs : List (Active N)) (move : RewrittenBody (Value N) Limit) (w : State N I) → OfMove m move w → OfNext (next_by same modules begins m cs move w)
    next_stop m cs (On (comes.Goes s)) w h = tt
    next_stop m [] (On (comes.Leaves v)) w h = tt
    next_stop m (c ∷ cs) (On (comes.Leaves v)) w h = tt
    next_stop m cs (On (comes.Calls f vs s)) w h = by_call (nat_lt (length cs) MAX_CALL_DEPTH) m s cs w (called (modules_of modules w) f vs)
    next_stop m cs (On (comes.Stops why)) w h = h
    next_stop m [] (Gives v) w h = tt
    next_stop m (c ∷ cs) (Gives v) w h = tt
    next_stop m [] (Waits v s) w h = tt
    next_stop m (c ∷ cs) (Waits v s) w h = tt

    next_is : {o : Option (Next N I)} {how : Ended N} {w : State N I} → o ≡ Some (Over how w) → OfNext o → OfEnd how w
    next_is e h = subst (λ o. OfNext o) e h

    runs_stop : {v : State N I} {m : N} {r : Rest (Value N)} {cs : List (Active N)} {how : Ended N} {w : State N I} → Segment same modules begins v m r cs how w → OfEnd how w
    runs_stop segment.ends = tt
    runs_stop (segment.returns p) = runs_stop p
    runs_stop (segment.goes move p e q) = runs_stop q
    runs_stop {m = m} {cs = cs} (segment.over {mid = mid} move p e) = next_is e (next_stop m cs move mid (moves_stop m p))

    told_is : {A : Type 0} {t u : AnswerWith A (State N I)} → t ≡ u → OfTold P t → OfTold P u
    told_is e h = subst (λ t. OfTold P t) e h

    ran_is : {o : Option (AnswerWith (Ran (Value N)) (State N I))} {t : AnswerWith (Ran (Value N)) (State N I)} → o ≡ Some t → OfRan o → OfTold P t
    ran_is e h = subst (λ o. OfRan o) e h

    pub starts_body_stop : {v : State N I} {m : N} {done : ℕ} {a : Result (Unit {0}) Limit} {w : State N I} → StartsBody same modules begins v m done a w → StopsTold P a w
    starts_body_stop {v} {m = m} (StartsBody.stopped h) = told_is h (note_stop (url_in same modules begins v) v (Begins m))
    starts_body_stop {v} {m = m} {done = done} (StartsBody.segment {late = late} {how = how} h p e) = told_is e (segment_stop (url_in same modules begins v) m done how late (runs_stop p))

    pub runs_body_stop : {v : State N I} {m : N} {a : Result (Ran (Value N)) Limit} {w : State N I} → RunsBody same modules begins v m a w → StopsTold P a w
    runs_body_stop {v} {m = m} (RunsBody.stopped h) = told_is h (note_stop (url_in same modules begins v) v (Begins m))
    runs_body_stop {v} {m = m} (RunsBody.segment {late = late} {how = how} h p e) = ran_is e (body_stop (url_in same modules begins v) m how late (runs_stop p))

    pub resumes_body_stop : {v : State N I} {m : N} {how : Settled (Value N)} {a : Result (Unit {0}) Limit} {w : State N I} → ResumesBody same modules begins v m how a w → StopsTold P a w
    resumes_body_stop {v} {m = m} p = told_is p.ends (segment_stop (url_in same modules begins v) m p.taken.standing.done p.ended p.late (runs_stop p.runs))
