-- A call for a body that no limit stops leaves a state that isn't stopped, and one that a limit stops a state that this limit has stopped.
use Rattle.std.proofs.Common.{◌≡◌, ℕ, ◌+◌, Bool, true, false, List, [], ◌∷◌, Option, Some, None, refl, ap, subst, sym, ◌∙◌}
use Rattle.std.specs.Prelude.{Result, Ok, Err, nat_lt, length}
use Rattle.std.specs.Option.{option_or}
use Rattle.esm_base.specs.declared.limits.Limit.{Limit}
use Rattle.esm_base.specs.declared.limits.TheConstants.{MAX_STEPS, MAX_LOG_BYTES, MAX_CALL_DEPTH}
use Rattle.esm_values.specs.Value.{Value, Undefined, Truth, Text, Func, Error, Namespace, Promise}
use Rattle.esm_values.specs.Ran.{Ran}
use Rattle.esm_values.specs.Display.{printed_line}
use Rattle.esm_values.specs.Completion.{Completion}
use Rattle.esm_values.specs.Acts.{Act, AnswerTo}
use Rattle.esm_values.specs.Acts.{Act as act}
use Rattle.esm_values.specs.Plans.{Rewritten as comes}
use Rattle.esm_values.specs.Operators.{values, text_of}
use Rattle.esm_promise.specs.Promises.{Settled, next_promise}
use Rattle.esm_promise.specs.Outer.{Outer}
use Rattle.esm_env.specs.Modules.{Modules}
use Rattle.esm_env.specs.Cells.{Cell, Reading}
use Rattle.esm_env.specs.Cells.{Reading as reading}
use Rattle.esm_env.specs.Writing.{Writing, writing_of}
use Rattle.esm_env.specs.Writing.{Writing as writing}
use Rattle.esm_tree.specs.Syntax.{Stmts}
use Rattle.esm_rewriting.specs.Scopes.{Scope, in_scopes}
use Rattle.esm_rewriting.specs.Rest.{Rest}
use Rattle.esm_rewriting.specs.State.{Event, Begins, Ends, Throws, State, Importing, AnswerWith, stop, steps_by, add_line, line_by, note, note_by, event_behind, event_line}
use Rattle.esm_rewriting.specs.Acts.{Inner, Performs, AnswersAct, ReadsMemberOf, BeginsBy, read_answer, import_answer, with_outer, with_promise, set_at, write_in, scope_write, module_write, modules_of}
use Rattle.esm_rewriting.specs.BodyRewriting.{RewrittenBody, On, Gives, Waits, RewritesBody, own_url, within, caught, wrote}
use Rattle.esm_rewriting.specs.BodyRewriting.RewritesBody.{begins_at, does, drops, sets, writes, throws, returns, prints, chooses, awaits, inner, inner_end, tries, tries_end}
use Rattle.esm_rewriting.specs.Segment.{Active, Ended, Normal, Thrown, Awaiting, Stopped, Next, Goes, Over, Segment, next_by, call_by, called}
use Rattle.esm_rewriting.specs.Segment.{Segment as segment}
use Rattle.esm_rewriting.specs.Bodies.{StartsBody, RunsBody, ResumesBody, segment_end, settle_done, body_end, ran_by, url_in}
use Rattle.esm_world.proofs.ExprStops.{Never}
use Rattle.esm_world.proofs.ExprLives.{Told, Comes, Lives, inside_lives, follows_lives, rewrites_live}

-- the limit that was told
abbrev pub limit_by : {A : Type 0} → Result A Limit → Option Limit
limit_by (Ok a) = None
limit_by (Err limit) = Some limit

halts : (o e : Option Limit) (limit : Limit) → option_or o e ≡ None → option_or o (Some limit) ≡ Some limit
halts None e limit h = refl
halts (Some other) e limit h = absurd cc

first_none : (o e : Option Limit) → option_or o e ≡ None → o ≡ None
first_none None e h = refl
first_none (Some other) e h = absurd cc

second_none : (o e : Option Limit) → option_or o e ≡ None → e ≡ None
second_none None e h = h
second_none (Some other) e h = absurd cc

-- the limit that has stopped a state: one that import() has met, or else the engine
module _ {N I : Type 0} (stop_of : I → Option Limit) where
  abbrev pub limit_at : State N I → Option Limit
  limit_at w = option_or (stop_of w.outer.imports) w.engine.stopped

  abbrev pub IsLive : State N I → Type 0
  IsLive w = limit_at w ≡ None

  abbrev OfTold : {A : Type 0} → AnswerWith A (State N I) → Type 0
  OfTold t = limit_at t.1 ≡ limit_by t.0

  abbrev OfInner : {A : Type 0} → AnswerWith A (Inner N I) → Type 0
  OfInner t = limit_at t.1.state ≡ limit_by t.0

  stopped_lives : (w : State N I) (limit : Limit) → IsLive w → limit_at (stop w limit) ≡ Some limit
  stopped_lives w limit l = halts (stop_of w.outer.imports) w.engine.stopped limit l

  by_steps : (w : State N I) (n : ℕ) (b : Bool) → IsLive w → OfTold (steps_by b w n)
  by_steps w n true l = stopped_lives w _ l
  by_steps w n false l = l

  by_line : (w : State N I) (text : List ℕ) (b : Bool) → IsLive w → OfTold (line_by b w text)
  by_line w text true l = stopped_lives w _ l
  by_line w text false l = l

  behind : (event : Event N) (r : Result (Unit {0}) Limit) (w : State N I) → limit_at w ≡ limit_by r → OfTold (event_behind event (r, w))
  behind event (Ok done) w h = h
  behind event (Err limit) w h = h

  by_note : (url : N → List ℕ) (w : State N I) (event : Event N) (b : Bool) → IsLive w → OfTold (note_by b url w event)
  by_note url w event true l =
      let t = add_line w (event_line url event) in
      behind event t.0 t.1 (by_line w (event_line url event) (nat_lt MAX_LOG_BYTES (length w.engine.log + length (event_line url event) + 1)) l)
  by_note url w event false l = l

  note_lives : (url : N → List ℕ) (w : State N I) (event : Event N) → IsLive w → OfTold (note url w event)
  note_lives url w event l = by_note url w event w.engine.trace l

  by_done : (p : ℕ) (how : Settled (Value N)) (r : Result (Unit {0}) Limit) (w : State N I) → limit_at w ≡ limit_by r → OfTold (settle_done p how (r, w))
  by_done p how (Ok noted) w h = h
  by_done p how (Err why) w h = h

  -- the limit that has stopped a segment
  abbrev OfEnd : Ended N → State N I → Type 0
  OfEnd Normal w = IsLive w
  OfEnd (Thrown v) w = IsLive w
  OfEnd (Awaiting v rest) w = IsLive w
  OfEnd (Stopped why) w = limit_at w ≡ Some why

  segment_lives : (url : N → List ℕ) (m : N) (p : ℕ) (how : Ended N) (w : State N I) → OfEnd how w → OfTold (segment_end url m p how w)
  segment_lives url m p Normal w h = let t = note url w (Ends m) in by_done p _ t.0 t.1 (note_lives url w (Ends m) h)
  segment_lives url m p (Thrown v) w h = let t = note url w (Throws m) in by_done p _ t.0 t.1 (note_lives url w (Throws m) h)
  segment_lives url m p (Awaiting v rest) w h = h
  segment_lives url m p (Stopped why) w h = h

  abbrev OfRan : Option (AnswerWith (Ran (Value N)) (State N I)) → Type 0
  OfRan None = Unit {0}
  OfRan (Some t) = OfTold t

  by_ran : (how : Ran (Value N)) (r : Result (Unit {0}) Limit) (w : State N I) → limit_at w ≡ limit_by r → OfRan (ran_by how (r, w))
  by_ran how (Ok noted) w h = h
  by_ran how (Err why) w h = h

  body_lives : (url : N → List ℕ) (m : N) (how : Ended N) (w : State N I) → OfEnd how w → OfRan (body_end url m how w)
  body_lives url m Normal w h = let t = note url w (Ends m) in by_ran _ t.0 t.1 (note_lives url w (Ends m) h)
  body_lives url m (Thrown v) w h = let t = note url w (Throws m) in by_ran _ t.0 t.1 (note_lives url w (Throws m) h)
  body_lives url m (Awaiting v rest) w h = tt
  body_lives url m (Stopped why) w h = h

  -- an import() tells its limit
  pub record LivesOn (begins : Importing N I) : Type 0 where
    pub begin : {o x : Outer N I} {m : N} {text : List ℕ} {p : ℕ} {end : Result (Unit {0}) Limit} → begins o m text p end x → stop_of x.imports ≡ limit_by end

  module _ (begins : Importing N I) (k : LivesOn begins) (same : N → N → Bool) (modules : I → Modules N) where
    module _ (m : N) where
      of_told : {A : Type 0} {t u : AnswerWith A (Inner N I)} → t ≡ u → OfInner u → OfInner t
      of_told e h = subst (λ t. OfInner t) (sym e) h

      read_lives : (w : Inner N I) (x : List ℕ) (r : Reading (Value N)) → IsLive w.state → OfInner (read_answer w x r)
      read_lives w x (reading.Value v) l = l
      read_lives w x reading.Unset l = l
      read_lives w x reading.Undeclared l = l

      member_lives : (w : Inner N I) (v : Value N) (x : List ℕ) (t : AnswerWith (Completion (Value N)) (Inner N I)) → ReadsMemberOf same modules begins m w v x t → IsLive w.state → OfInner t
      member_lives w Undefined x t p l = of_told p l
      member_lives w (Truth b) x t p l = of_told p l
      member_lives w (Text s) x t p l = of_told p l
      member_lives w (Func n i) x t p l = of_told p l
      member_lives w (Error i) x t p l = of_told p l
      member_lives w (Namespace n) x t p l = of_told p.2 (read_lives w x p.0 l)
      member_lives w (Promise i) x t p l = of_told p l

      import_lives : (w : Inner N I) (text : List ℕ) (p : ℕ) (end : Result (Unit {0}) Limit) (after : Outer N I) → begins (with_promise w.state).outer m text p end after → IsLive w.state
          → limit_at (with_outer w.state after) ≡ limit_by (import_answer {N = N} p end)
      import_lives w text p (Ok done) after b l = ap (λ o. option_or o w.state.engine.stopped) (k.begin b) ∙ second_none (stop_of w.state.outer.imports) w.state.engine.stopped l
      import_lives w text p (Err limit) after b l = ap (λ o. option_or o w.state.engine.stopped) (k.begin b)

      begin_lives : (w : Inner N I) (text : Option (List ℕ)) (t : AnswerWith (Value N) (Inner N I)) → BeginsBy same modules begins m w text t → IsLive w.state → OfInner t
      begin_lives w None t p l = of_told p l
      begin_lives w (Some text) t p l = of_told p.3 (import_lives w text (next_promise w.state.outer.promises) p.0 p.1 p.2 l)

      tells_lives : (w : Inner N I) (a : Act (Value N)) (t : AnswerWith (AnswerTo a) (Inner N I)) → AnswersAct same modules begins m w a t → IsLive w.state → OfInner t
      tells_lives w (act.Read x) t p l = of_told p.2 (read_lives w x p.0 l)
      tells_lives w (act.Member of x) t p l = member_lives w of x t p l
      tells_lives w (act.Display of) t p l = of_told p.2 l
      tells_lives w (act.Print vs) t p l = of_told p.2 (by_line w.state (printed_line p.0) (nat_lt MAX_LOG_BYTES (length w.state.engine.log + length (printed_line p.0) + 1)) l)
      tells_lives w (act.Fault kind message) t p l = of_told p l
      tells_lives w (act.Step steps) t p l = of_told p (by_steps w.state steps (nat_lt MAX_STEPS (w.state.engine.steps + steps)) l)
      tells_lives w (act.Import of) t p l = begin_lives w (text_of w.state.outer.errors of) t p l

      abbrev Live : Inner N I → Type 0
      Live w = IsLive w.state

      abbrev Halted : Limit → Inner N I → Type 0
      Halted limit w = limit_at w.state ≡ Some limit

      of_act : {A : Type 0} (r : Result A Limit) (w : Inner N I) → limit_at w.state ≡ limit_by r → Told (Performs same modules begins m) Live Halted r w
      of_act (Ok a) w h = h
      of_act (Err limit) w h = h

      acts_live : Lives (Performs same modules begins m) Live Halted
      acts_live = record { call = λ {v} {w} {a} {r} p l. of_act r w (tells_lives v a (r, w) p l) }

      set_same : (ss : List (Scope (Value N))) (w : State N I) (x : List ℕ) (v : Value N) → limit_at (set_at same modules begins m ss w x v).state ≡ limit_at w
      set_same [] w x v = refl
      set_same (s ∷ ss) w x v = refl

      by_module : (w : Inner N I) (x : List ℕ) (r : Writing N) → limit_at (module_write same modules begins m w x r).1.state ≡ limit_at w.state
      by_module w x (writing.Done cells) = refl
      by_module w x writing.Unset = refl
      by_module w x writing.Constant = refl
      by_module w x writing.Undeclared = refl

      by_scope : (w : Inner N I) (x : List ℕ) (v : Value N) (constant : Bool) (old : Option (Value N)) → limit_at (scope_write same modules begins m w x v constant old).1.state ≡ limit_at w.state
      by_scope w x v constant None = refl
      by_scope w x v true (Some old) = refl
      by_scope w x v false (Some old) = refl

      by_write : (w : Inner N I) (x : List ℕ) (v : Value N) (c : Option (Cell (Value N))) → limit_at (write_in same modules begins m w x v c).1.state ≡ limit_at w.state
      by_write w x v (Some c) = by_scope w x v c.constant c.value
      by_write w x v None = by_module w x (writing_of same (modules_of modules w.state) w.state.cells m x v)

      abbrev OfMove : RewrittenBody (Value N) Limit → State N I → Type 0
      OfMove (On (comes.Goes r)) w = IsLive w
      OfMove (On (comes.Leaves v)) w = IsLive w
      OfMove (On (comes.Calls f vs r)) w = IsLive w
      OfMove (On (comes.Stops why)) w = limit_at w ≡ Some why
      OfMove (Gives v) w = IsLive w
      OfMove (Waits v r) w = IsLive w

      move_of : (c : comes (Value N) Limit (Rest (Value N))) (w : Inner N I) → Comes (Performs same modules begins m) Live Halted c w → OfMove (On c) w.state
      move_of (comes.Goes r) w h = h
      move_of (comes.Leaves v) w h = h
      move_of (comes.Calls f vs r) w h = h
      move_of (comes.Stops why) w h = h

      within_lives : (f : Rest (Value N) → Rest (Value N)) (move : RewrittenBody (Value N) Limit) (w : State N I) → OfMove move w → OfMove (within f move) w
      within_lives f (On (comes.Goes r)) w h = h
      within_lives f (On (comes.Leaves v)) w h = h
      within_lives f (On (comes.Calls g vs r)) w h = h
      within_lives f (On (comes.Stops why)) w h = h
      within_lives f (Gives v) w h = h
      within_lives f (Waits v r) w h = h

      caught_lives : (x : Option (List ℕ)) (handler : Stmts) (rest : Rest (Value N)) (move : RewrittenBody (Value N) Limit) (w : State N I) → OfMove move w → OfMove (caught x handler rest move) w
      caught_lives x handler rest (On (comes.Goes r)) w h = h
      caught_lives x handler rest (On (comes.Leaves v)) w h = h
      caught_lives x handler rest (On (comes.Calls g vs r)) w h = h
      caught_lives x handler rest (On (comes.Stops why)) w h = h
      caught_lives x handler rest (Gives v) w h = h
      caught_lives x handler rest (Waits v r) w h = h

      wrote_lives : (rest : Rest (Value N)) (o : Option (Value N)) (w : State N I) → IsLive w → OfMove (wrote rest o) w
      wrote_lives rest None w l = l
      wrote_lives rest (Some v) w l = l

      moves_live : {v : Inner N I} {r : Rest (Value N)} {move : RewrittenBody (Value N) Limit} {w : Inner N I} → RewritesBody same modules begins m v r move w → IsLive v.state → OfMove move w.state
      moves_live {w = w} (begins_at {c = c} p) l = move_of c w (follows_lives (Performs same modules begins m) Live Halted acts_live (Never.asks (λ r. Never.ends tt)) p l)
      moves_live {w = w} (does {c = c} s) l = move_of _ w (inside_lives (Performs same modules begins m) Live Halted acts_live _ w c (rewrites_live (Performs same modules begins m) Live Halted acts_live (values same) (own_url same modules begins m) s l))
      moves_live drops l = l
      moves_live {v} (sets {x = x} {v = u}) l = set_same v.scopes v.state x u ∙ l
      moves_live {v} {w = w} (writes {x = x} {v = u} {rest = rest}) l = wrote_lives rest _ w.state (by_write v x u (in_scopes v.scopes x) ∙ l)
      moves_live throws l = l
      moves_live returns l = l
      moves_live {w = w} (prints {c = c} p) l = move_of c w (follows_lives (Performs same modules begins m) Live Halted acts_live (Never.asks (λ r. Never.asks (λ r. Never.ends tt))) p l)
      moves_live chooses l = l
      moves_live awaits l = l
      moves_live {w = w} (inner {move = move} p) l = within_lives _ move w.state (moves_live p l)
      moves_live inner_end l = l
      moves_live {w = w} (tries {rest = rest} {x = x} {handler = handler} {move = move} p) l = caught_lives x handler rest move w.state (moves_live p l)
      moves_live tries_end l = l

    abbrev OfNext : Option (Next N I) → Type 0
    OfNext None = Unit {0}
    OfNext (Some (Goes m s callers w)) = IsLive w
    OfNext (Some (Over how w)) = OfEnd how w

    by_call : (b : Bool) (m : N) (s : Rest (Value N)) (cs : List (Active N)) (w : State N I) (callee : Option (Active N)) → IsLive w → OfNext (call_by same modules begins b m s cs w callee)
    by_call true m s cs w (Some c) l = l
    by_call true m s cs w None l = tt
    by_call false m s cs w callee l = l

    next_lives : (m : N) (cs : List (Active N)) (move : RewrittenBody (Value N) Limit) (w : State N I) → OfMove m move w → OfNext (next_by same modules begins m cs move w)
    next_lives m cs (On (comes.Goes s)) w h = h
    next_lives m [] (On (comes.Leaves v)) w h = h
    next_lives m (c ∷ cs) (On (comes.Leaves v)) w h = h
    next_lives m cs (On (comes.Calls f vs s)) w h = by_call (nat_lt (length cs) MAX_CALL_DEPTH) m s cs w (called (modules_of modules w) f vs) h
    next_lives m cs (On (comes.Stops why)) w h = h
    next_lives m [] (Gives v) w h = tt
    next_lives m (c ∷ cs) (Gives v) w h = h
    next_lives m [] (Waits v s) w h = h
    next_lives m (c ∷ cs) (Waits v s) w h = tt

    next_is : {o : Option (Next N I)} {n : Next N I} → o ≡ Some n → OfNext o → OfNext (Some n)
    next_is e h = subst (λ o. OfNext o) e h

    runs_live : {v : State N I} {m : N} {r : Rest (Value N)} {cs : List (Active N)} {how : Ended N} {w : State N I} → Segment same modules begins v m r cs how w → IsLive v → OfEnd how w
    runs_live segment.ends l = l
    runs_live (segment.returns p) l = runs_live p l
    runs_live {m = m} {cs = cs} (segment.goes {mid = mid} move p e q) l = runs_live q (next_is e (next_lives m cs move mid (moves_live m p l)))
    runs_live {m = m} {cs = cs} (segment.over {mid = mid} move p e) l = next_is e (next_lives m cs move mid (moves_live m p l))

    told_is : {A : Type 0} {t u : AnswerWith A (State N I)} → t ≡ u → OfTold t → OfTold u
    told_is e h = subst (λ t. OfTold t) e h

    ran_is : {o : Option (AnswerWith (Ran (Value N)) (State N I))} {t : AnswerWith (Ran (Value N)) (State N I)} → o ≡ Some t → OfRan o → OfTold t
    ran_is e h = subst (λ o. OfRan o) e h

    begun_lives : (v : State N I) (m : N) {t : AnswerWith (Unit {0}) (State N I)} → note (url_in same modules begins v) v (Begins m) ≡ t → IsLive v → OfTold t
    begun_lives v m e l = told_is e (note_lives (url_in same modules begins v) v (Begins m) l)

    pub starts_body_lives : {v : State N I} {m : N} {done : ℕ} {a : Result (Unit {0}) Limit} {w : State N I} → StartsBody same modules begins v m done a w → IsLive v → limit_at w ≡ limit_by a
    starts_body_lives {v} {m = m} (StartsBody.stopped h) l = begun_lives v m h l
    starts_body_lives {v} {m = m} {done = done} (StartsBody.segment {late = late} {how = how} h p e) l =
        told_is e (segment_lives (url_in same modules begins v) m done how late (runs_live p (begun_lives v m h l)))

    pub runs_body_lives : {v : State N I} {m : N} {a : Result (Ran (Value N)) Limit} {w : State N I} → RunsBody same modules begins v m a w → IsLive v → limit_at w ≡ limit_by a
    runs_body_lives {v} {m = m} (RunsBody.stopped h) l = begun_lives v m h l
    runs_body_lives {v} {m = m} (RunsBody.segment {late = late} {how = how} h p e) l =
        ran_is e (body_lives (url_in same modules begins v) m how late (runs_live p (begun_lives v m h l)))

    pub resumes_body_lives : {v : State N I} {m : N} {how : Settled (Value N)} {a : Result (Unit {0}) Limit} {w : State N I} → ResumesBody same modules begins v m how a w → IsLive v → limit_at w ≡ limit_by a
    resumes_body_lives {v} {m = m} p l = told_is p.ends (segment_lives (url_in same modules begins v) m p.taken.standing.done p.ended p.late (runs_live p.runs l))
