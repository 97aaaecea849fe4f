-- A segment of a body notes no event, and a call for a body adds events of its module alone.
use Rattle.std.proofs.Common.{◌≡◌, ℕ, ◌+◌, Bool, true, false, List, [], ◌∷◌, Option, Some, None, refl, ap, subst, sym, ◌∙◌}
use Rattle.std.specs.Prelude.{Result, Ok, Err, nat_lt, length}
use Rattle.std.specs.List.{AllByRecursion}
use Rattle.esm_base.specs.declared.limits.Limit.{Limit}
use Rattle.esm_base.specs.declared.limits.TheConstants.{MAX_STEPS, MAX_LOG_BYTES, MAX_CALL_DEPTH}
use Rattle.esm_values.specs.Value.{Value, Undefined, Truth, Text, Func, Error, Namespace, Promise}
use Rattle.esm_values.specs.Ran.{Ran}
use Rattle.esm_values.specs.Display.{printed_line}
use Rattle.esm_values.specs.Completion.{Completion}
use Rattle.esm_values.specs.Acts.{Act, AnswerTo}
use Rattle.esm_values.specs.Acts.{Act as act}
use Rattle.esm_values.specs.Plans.{Rewritten as comes}
use Rattle.esm_values.specs.Operators.{values, text_of}
use Rattle.esm_promise.specs.Promises.{Settled}
use Rattle.esm_env.specs.Modules.{Modules}
use Rattle.esm_env.specs.Cells.{Cell, Reading}
use Rattle.esm_env.specs.Cells.{Reading as reading}
use Rattle.esm_env.specs.Writing.{Writing, writing_of}
use Rattle.esm_env.specs.Writing.{Writing as writing}
use Rattle.esm_rewriting.specs.Scopes.{Scope, in_scopes}
use Rattle.esm_rewriting.specs.Rest.{Rest}
use Rattle.esm_rewriting.specs.State.{Event, Begins, Ends, Throws, State, Importing, AnswerWith, take_steps, steps_by, add_line, line_by, note, note_by, event_behind, event_line}
use Rattle.esm_rewriting.specs.Acts.{Inner, Performs, AnswersAct, ReadsMemberOf, BeginsBy, read_answer, set_at, write_in, scope_write, module_write, modules_of}
use Rattle.esm_rewriting.specs.BodyRewriting.{RewrittenBody, On, Gives, Waits, RewritesBody, own_url}
use Rattle.esm_rewriting.specs.BodyRewriting.RewritesBody.{begins_at, does, drops, sets, writes, throws, returns, prints, chooses, awaits, inner, inner_end, tries, tries_end}
use Rattle.esm_rewriting.specs.Segment.{Active, Ended, Normal, Thrown, Awaiting, Stopped, Next, Goes, Over, Segment, next_by, call_by, called}
use Rattle.esm_rewriting.specs.Segment.{Segment as segment}
use Rattle.esm_rewriting.specs.Bodies.{StartsBody, RunsBody, ResumesBody, segment_end, settle_done, body_end, ran_by, url_in}
use Rattle.esm_rewriting.proofs.ExprKeeps.{Stays, follows_keeps, step_keeps}
use Rattle.esm_world.proofs.Each.{pushed}

abbrev pub Events : Type 0 → Type 0
Events N = List (Event N)

-- the event is of such a module
abbrev pub IsOf : {N : Type 0} → (N → Type 0) → Event N → Type 0
IsOf P (Begins m) = P m
IsOf P (Ends m) = P m
IsOf P (Throws m) = P m

module _ {N I : Type 0} where
  abbrev seen : State N I → Events N
  seen w = w.engine.events

  abbrev told_seen : {A : Type 0} → AnswerWith A (State N I) → Events N
  told_seen t = seen t.1

  abbrev inner_seen : {A : Type 0} → AnswerWith A (Inner N I) → Events N
  inner_seen t = seen t.1.state

  by_steps : (w : State N I) (n : ℕ) (b : Bool) → told_seen (steps_by b w n) ≡ seen w
  by_steps w n true = refl
  by_steps w n false = refl

  take_keeps : (w : State N I) (n : ℕ) → told_seen (take_steps w n) ≡ seen w
  take_keeps w n = by_steps w n (nat_lt MAX_STEPS (w.engine.steps + n))

  by_line : (w : State N I) (text : List ℕ) (b : Bool) → told_seen (line_by b w text) ≡ seen w
  by_line w text true = refl
  by_line w text false = refl

  pub line_keeps : (w : State N I) (text : List ℕ) → told_seen (add_line w text) ≡ seen w
  line_keeps w text = by_line w text (nat_lt MAX_LOG_BYTES (length w.engine.log + length text + 1))

  read_keeps : (w : Inner N I) (x : List ℕ) (r : Reading (Value N)) → inner_seen (read_answer w x r) ≡ seen w.state
  read_keeps w x (reading.Value v) = refl
  read_keeps w x reading.Unset = refl
  read_keeps w x reading.Undeclared = refl

module _ {N I : Type 0} (same : N → N → Bool) (modules : I → Modules N) (begins : Importing N I) where
  abbrev K : Events N → Events N → Type 0
  K i j = j ≡ i

  kept : {i j : Events N} → j ≡ i → K i j
  kept e = e

  on : {i j l : Events N} → K i j → K j l → K i l
  on p q = q ∙ p

  abbrev KeepInner : Inner N I → Inner N I → Type 0
  KeepInner v w = K (seen v.state) (seen w.state)

  module _ (m : N) where
    by_told : {A : Type 0} (w : Inner N I) {t u : AnswerWith A (Inner N I)} → t ≡ u → inner_seen u ≡ seen w.state → K (seen w.state) (inner_seen t)
    by_told w e f = kept (ap (λ t. inner_seen t) e ∙ f)

    member_keeps : (w : Inner N I) (v : Value N) (x : List ℕ) (t : AnswerWith (Completion (Value N)) (Inner N I)) → ReadsMemberOf same modules begins m w v x t → K (seen w.state) (inner_seen t)
    member_keeps w Undefined x t p = by_told w p refl
    member_keeps w (Truth b) x t p = by_told w p refl
    member_keeps w (Text s) x t p = by_told w p refl
    member_keeps w (Func n i) x t p = by_told w p refl
    member_keeps w (Error i) x t p = by_told w p refl
    member_keeps w (Namespace n) x t p = by_told w p.2 (read_keeps w x p.0)
    member_keeps w (Promise i) x t p = by_told w p refl

    begin_keeps : (w : Inner N I) (text : Option (List ℕ)) (t : AnswerWith (Value N) (Inner N I)) → BeginsBy same modules begins m w text t → K (seen w.state) (inner_seen t)
    begin_keeps w None t p = by_told w p refl
    begin_keeps w (Some text) t p = ap (λ t. inner_seen t) p.3

    tells_keeps : (w : Inner N I) (a : Act (Value N)) (t : AnswerWith (AnswerTo a) (Inner N I)) → AnswersAct same modules begins m w a t → K (seen w.state) (inner_seen t)
    tells_keeps w (act.Read x) t p = by_told w p.2 (read_keeps w x p.0)
    tells_keeps w (act.Member of x) t p = member_keeps w of x t p
    tells_keeps w (act.Display of) t p = by_told w p.2 refl
    tells_keeps w (act.Print vs) t p = by_told w p.2 (line_keeps w.state (printed_line p.0))
    tells_keeps w (act.Fault kind message) t p = by_told w p refl
    tells_keeps w (act.Step steps) t p = by_told w p (take_keeps w.state steps)
    tells_keeps w (act.Import of) t p = begin_keeps w (text_of w.state.outer.errors of) t p

    acts_stay : Stays (Performs same modules begins m) KeepInner
    acts_stay = record { same = λ w. kept refl; on = λ p q. on p q; call = λ {v} {w} {a} {r} p. tells_keeps v a (r, w) p }

    set_keeps : (ss : List (Scope (Value N))) (w : State N I) (x : List ℕ) (v : Value N) → seen (set_at same modules begins m ss w x v).state ≡ seen w
    set_keeps [] w x v = refl
    set_keeps (s ∷ ss) w x v = refl

    by_module : (w : Inner N I) (x : List ℕ) (r : Writing N) → seen (module_write same modules begins m w x r).1.state ≡ seen w.state
    by_module w x (writing.Done cells) = refl
    by_module w x writing.Unset = refl
    by_module w x writing.Constant = refl
    by_module w x writing.Undeclared = refl

    by_scope : (w : Inner N I) (x : List ℕ) (v : Value N) (constant : Bool) (old : Option (Value N)) → seen (scope_write same modules begins m w x v constant old).1.state ≡ seen w.state
    by_scope w x v constant None = refl
    by_scope w x v true (Some old) = refl
    by_scope w x v false (Some old) = refl

    by_write : (w : Inner N I) (x : List ℕ) (v : Value N) (c : Option (Cell (Value N))) → seen (write_in same modules begins m w x v c).1.state ≡ seen w.state
    by_write w x v (Some c) = by_scope w x v c.constant c.value
    by_write w x v None = by_module w x (writing_of same (modules_of modules w.state) w.state.cells m x v)

    moves_keep : {v : Inner N I} {r : Rest (Value N)} {move : RewrittenBody (Value N) Limit} {w : Inner N I} → RewritesBody same modules begins m v r move w → KeepInner v w
    moves_keep (begins_at p) = follows_keeps (Performs same modules begins m) KeepInner acts_stay p
    moves_keep (does s) = step_keeps (Performs same modules begins m) KeepInner acts_stay (values same) (own_url same modules begins m) s
    moves_keep drops = kept refl
    moves_keep {v} (sets {x = x} {v = u}) = kept (set_keeps v.scopes v.state x u)
    moves_keep {v} (writes {x = x} {v = u}) = kept (by_write v x u (in_scopes v.scopes x))
    moves_keep throws = kept refl
    moves_keep returns = kept refl
    moves_keep (prints p) = follows_keeps (Performs same modules begins m) KeepInner acts_stay p
    moves_keep chooses = kept refl
    moves_keep awaits = kept refl
    moves_keep (inner p) = moves_keep p
    moves_keep inner_end = kept refl
    moves_keep (tries p) = moves_keep p
    moves_keep tries_end = kept refl

  abbrev next_seen : Next N I → Events N
  next_seen (Goes m s callers w) = seen w
  next_seen (Over how w) = seen w

  abbrev IsKept : State N I → Option (Next N I) → Type 0
  IsKept w None = Unit {0}
  IsKept w (Some n) = next_seen n ≡ seen w

  by_call : (b : Bool) (m : N) (s : Rest (Value N)) (cs : List (Active N)) (w : State N I) (callee : Option (Active N)) → IsKept w (call_by same modules begins b m s cs w callee)
  by_call true m s cs w (Some c) = refl
  by_call true m s cs w None = tt
  by_call false m s cs w callee = refl

  next_keeps : (m : N) (cs : List (Active N)) (move : RewrittenBody (Value N) Limit) (w : State N I) → IsKept w (next_by same modules begins m cs move w)
  next_keeps m cs (On (comes.Goes s)) w = refl
  next_keeps m [] (On (comes.Leaves v)) w = refl
  next_keeps m (c ∷ cs) (On (comes.Leaves v)) w = refl
  next_keeps m cs (On (comes.Calls f vs s)) w = by_call (nat_lt (length cs) MAX_CALL_DEPTH) m s cs w (called (modules_of modules w) f vs)
  next_keeps m cs (On (comes.Stops why)) w = refl
  next_keeps m [] (Gives v) w = tt
  next_keeps m (c ∷ cs) (Gives v) w = refl
  next_keeps m [] (Waits v s) w = refl
  next_keeps m (c ∷ cs) (Waits v s) w = tt

  next_is : (w : State N I) {o : Option (Next N I)} {n : Next N I} → o ≡ Some n → IsKept w o → next_seen n ≡ seen w
  next_is w e h = subst (λ o. IsKept w o) e h

  pub runs_keep : {v : State N I} {m : N} {r : Rest (Value N)} {cs : List (Active N)} {how : Ended N} {w : State N I} → Segment same modules begins v m r cs how w → K (seen v) (seen w)
  runs_keep segment.ends = kept refl
  runs_keep (segment.returns p) = runs_keep p
  runs_keep {m = m} {cs = cs} (segment.goes {mid = mid} move p e q) = on (moves_keep m p) (on (kept (next_is mid e (next_keeps m cs move mid))) (runs_keep q))
  runs_keep {m = m} {cs = cs} (segment.over {mid = mid} move p e) = on (moves_keep m p) (kept (next_is mid e (next_keeps m cs move mid)))

  -- ---- where all events are of such modules

  module _ (P : N → Type 0) where
    abbrev Are : Events N → Type 0
    Are es = AllByRecursion (IsOf P) es

    behind_are : (event : Event N) (r : Result (Unit {0}) Limit) (w : State N I) → IsOf P event → Are (seen w) → Are (told_seen (event_behind event (r, w)))
    behind_are event (Ok done) w k h = pushed (IsOf P) w.engine.events event h k
    behind_are event (Err limit) w k h = h

    by_note : (url : N → List ℕ) (w : State N I) (event : Event N) (b : Bool) → IsOf P event → Are (seen w) → Are (told_seen (note_by b url w event))
    by_note url w event true k h =
        let t = add_line w (event_line url event) in
        behind_are event t.0 t.1 k (subst Are (sym (line_keeps w (event_line url event))) h)
    by_note url w event false k h = pushed (IsOf P) w.engine.events event h k

    note_are : (url : N → List ℕ) (w : State N I) (event : Event N) → IsOf P event → Are (seen w) → Are (told_seen (note url w event))
    note_are url w event k h = by_note url w event w.engine.trace k h

    done_are : (p : ℕ) (how : Settled (Value N)) (r : Result (Unit {0}) Limit) (w : State N I) → Are (seen w) → Are (told_seen (settle_done p how (r, w)))
    done_are p how (Ok noted) w h = h
    done_are p how (Err why) w h = h

    segment_are : (url : N → List ℕ) (m : N) (p : ℕ) (how : Ended N) (w : State N I) → P m → Are (seen w) → Are (told_seen (segment_end url m p how w))
    segment_are url m p Normal w k h = let t = note url w (Ends m) in done_are p _ t.0 t.1 (note_are url w (Ends m) k h)
    segment_are url m p (Thrown v) w k h = let t = note url w (Throws m) in done_are p _ t.0 t.1 (note_are url w (Throws m) k h)
    segment_are url m p (Awaiting v rest) w k h = h
    segment_are url m p (Stopped why) w k h = h

    abbrev AreRan : Option (AnswerWith (Ran (Value N)) (State N I)) → Type 0
    AreRan None = Unit {0}
    AreRan (Some t) = Are (told_seen t)

    ran_are : (how : Ran (Value N)) (r : Result (Unit {0}) Limit) (w : State N I) → Are (seen w) → AreRan (ran_by how (r, w))
    ran_are how (Ok noted) w h = h
    ran_are how (Err why) w h = h

    body_are : (url : N → List ℕ) (m : N) (how : Ended N) (w : State N I) → P m → Are (seen w) → AreRan (body_end url m how w)
    body_are url m Normal w k h = let t = note url w (Ends m) in ran_are _ t.0 t.1 (note_are url w (Ends m) k h)
    body_are url m (Thrown v) w k h = let t = note url w (Throws m) in ran_are _ t.0 t.1 (note_are url w (Throws m) k h)
    body_are url m (Awaiting v rest) w k h = tt
    body_are url m (Stopped why) w k h = h

    begun_are : (w : State N I) (m : N) {t : AnswerWith (Unit {0}) (State N I)} → note (url_in same modules begins w) w (Begins m) ≡ t → P m → Are (seen w) → Are (told_seen t)
    begun_are w m e k h = subst (λ t. Are (told_seen t)) e (note_are (url_in same modules begins w) w (Begins m) k h)

    pub starts_events : {v : State N I} {m : N} {done : ℕ} {a : Result (Unit {0}) Limit} {w : State N I} → StartsBody same modules begins v m done a w → P m → Are (seen v) → Are (seen w)
    starts_events {v} {m = m} (StartsBody.stopped e) k h = begun_are v m e k h
    starts_events {v} {m = m} {done = done} (StartsBody.segment {late = late} {how = how} e p f) k h =
        subst (λ t. Are (told_seen t)) f (segment_are (url_in same modules begins v) m done how late k (subst Are (sym (runs_keep p)) (begun_are v m e k h)))

    pub runs_events : {v : State N I} {m : N} {a : Result (Ran (Value N)) Limit} {w : State N I} → RunsBody same modules begins v m a w → P m → Are (seen v) → Are (seen w)
    runs_events {v} {m = m} (RunsBody.stopped e) k h = begun_are v m e k h
    runs_events {v} {m = m} (RunsBody.segment {late = late} {how = how} e p f) k h =
        subst (λ o. AreRan o) f (body_are (url_in same modules begins v) m how late k (subst Are (sym (runs_keep p)) (begun_are v m e k h)))

    pub resumes_events : {v : State N I} {m : N} {how : Settled (Value N)} {a : Result (Unit {0}) Limit} {w : State N I} → ResumesBody same modules begins v m how a w → P m → Are (seen v) → Are (seen w)
    resumes_events {v} {m = m} p k h =
        subst (λ t. Are (told_seen t)) p.ends (segment_are (url_in same modules begins v) m p.taken.standing.done p.ended p.late k (subst Are (sym (runs_keep p.runs)) h))
