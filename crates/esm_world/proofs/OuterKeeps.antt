-- What bodies do to promises, errors and imports, and to the bodies that stand at an await: a segment keeps what each error, each
-- refused import() and each import() with a new promise keeps, and only its end settles a promise, or stands.
use Rattle.std.proofs.Common.{◌≡◌, ℕ, ◌+◌, Bool, true, false, List, [], ◌∷◌, Option, Some, None, refl, ap, subst, sym, ◌∙◌}
use Rattle.std.specs.Prelude.{Result, Ok, Err, nat_lt, length, ◌++◌}
use Rattle.esm_base.specs.declared.limits.Limit.{Limit}
use Rattle.esm_base.specs.declared.limits.TheConstants.{MAX_STEPS, MAX_LOG_BYTES, MAX_CALL_DEPTH}
use Rattle.esm_values.specs.Value.{Value, Undefined, Truth, Text, Func, Error, Namespace, Promise}
use Rattle.esm_values.specs.Ran.{Ran}
use Rattle.esm_values.specs.Errors.{Errors}
use Rattle.esm_values.specs.Display.{printed_line}
use Rattle.esm_values.specs.Completion.{Completion}
use Rattle.esm_values.specs.Acts.{Act, AnswerTo}
use Rattle.esm_values.specs.Acts.{Act as act}
use Rattle.esm_values.specs.Plans.{Rewritten as comes}
use Rattle.esm_values.specs.Operators.{values, text_of}
use Rattle.esm_promise.specs.Promises.{Settled, Rejected, make, settle, next_promise}
use Rattle.esm_promise.specs.Outer.{Outer}
use Rattle.esm_env.specs.Modules.{Modules}
use Rattle.esm_env.specs.Cells.{Cell, Reading}
use Rattle.esm_env.specs.Cells.{Reading as reading}
use Rattle.esm_env.specs.Writing.{Writing, writing_of}
use Rattle.esm_env.specs.Writing.{Writing as writing}
use Rattle.esm_rewriting.specs.Scopes.{Scope, in_scopes}
use Rattle.esm_rewriting.specs.Rest.{Rest}
use Rattle.esm_rewriting.specs.State.{Event, Begins, Ends, Throws, Standing, State, Importing, AnswerWith, steps_by, add_line, line_by, note, note_by, event_behind, event_line}
use Rattle.esm_rewriting.specs.Acts.{Inner, Performs, AnswersAct, ReadsMemberOf, BeginsBy, read_answer, set_at, write_in, scope_write, module_write, modules_of}
use Rattle.esm_rewriting.specs.BodyRewriting.{RewrittenBody, On, Gives, Waits, RewritesBody, own_url}
use Rattle.esm_rewriting.specs.BodyRewriting.RewritesBody.{begins_at, does, drops, sets, writes, throws, returns, prints, chooses, awaits, inner, inner_end, tries, tries_end}
use Rattle.esm_rewriting.specs.Segment.{Active, Ended, Normal, Thrown, Awaiting, Stopped, Next, Goes, Over, Segment, next_by, call_by, called}
use Rattle.esm_rewriting.specs.Segment.{Segment as segment}
use Rattle.esm_rewriting.specs.Bodies.{StartsBody, RunsBody, ResumesBody, await_on, segment_end, settle_done, body_end, ran_by, url_in}
use Rattle.esm_rewriting.proofs.ExprKeeps.{Stays, follows_keeps, step_keeps}

-- what is looked at: promises, errors and imports, and the bodies that stand at an await
abbrev pub Around : Type 0 → Type 0 → Type 0
Around N I = Outer N I × List (Standing N)

module _ {N I : Type 0} where
  abbrev pub around : State N I → Around N I
  around w = (w.outer, w.engine.standing)

  abbrev pub told_around : {A : Type 0} → AnswerWith A (State N I) → Around N I
  told_around t = around t.1

  abbrev pub with_errors : Outer N I → Errors → Outer N I
  with_errors o es = record o { errors = es }

  -- a new promise is made
  abbrev pub makes : Outer N I → Outer N I
  makes o = record o { promises = make o.promises [] }

  -- the promise is settled so
  abbrev pub settles : Outer N I → ℕ → Settled (Value N) → Outer N I
  settles o p how = record o { promises = settle o.promises p how }

  -- ---- what changes nothing of it

  by_steps : (w : State N I) (n : ℕ) (b : Bool) → told_around (steps_by b w n) ≡ around w
  by_steps w n true = refl
  by_steps w n false = refl

  by_line : (w : State N I) (text : List ℕ) (b : Bool) → told_around (line_by b w text) ≡ around w
  by_line w text true = refl
  by_line w text false = refl

  line_around : (w : State N I) (text : List ℕ) → told_around (add_line w text) ≡ around w
  line_around w text = by_line w text (nat_lt MAX_LOG_BYTES (length w.engine.log + length text + 1))

  behind : (event : Event N) (r : Result (Unit {0}) Limit) (w : State N I) → told_around (event_behind event (r, w)) ≡ around w
  behind event (Ok done) w = refl
  behind event (Err limit) w = refl

  by_note : (url : N → List ℕ) (w : State N I) (event : Event N) (b : Bool) → told_around (note_by b url w event) ≡ around w
  by_note url w event true = let t = add_line w (event_line url event) in behind event t.0 t.1 ∙ line_around w (event_line url event)
  by_note url w event false = refl

  note_around : (url : N → List ℕ) (w : State N I) (event : Event N) → told_around (note url w event) ≡ around w
  note_around url w event = by_note url w event w.engine.trace

  pub noted : (url : N → List ℕ) (w : State N I) (event : Event N) (t : AnswerWith (Unit {0}) (State N I)) → note url w event ≡ t → told_around t ≡ around w
  noted url w event t e = subst (λ t. told_around t ≡ around w) e (note_around url w event)

  -- ---- how a call for a body ends

  -- the end of a body settles the promise of its end, or the body stands at an await; or neither, where a limit stopped
  pub data EndsSo (m : N) (done : ℕ) (late : Around N I) : Around N I → Type 0 where
    stays : EndsSo m done late late
    settled : (how : Settled (Value N)) → EndsSo m done late (settles late.0 done how, late.1)
    stands : (v : Value N) (rest : Rest (Value N))
        → EndsSo m done late (record late.0 { promises = await_on late.0.promises v m }, late.1 ++ record { at = m; done = done; rest = rest } ∷ [])

  done_so : (m : N) (p : ℕ) (how : Settled (Value N)) (r : Result (Unit {0}) Limit) (w : State N I) → EndsSo m p (around w) (told_around (settle_done p how (r, w)))
  done_so m p how (Ok noted) w = EndsSo.settled how
  done_so m p how (Err why) w = EndsSo.stays

  segment_so : (url : N → List ℕ) (m : N) (p : ℕ) (how : Ended N) (w : State N I) → EndsSo m p (around w) (told_around (segment_end url m p how w))
  segment_so url m p Normal w = let t = note url w (Ends m) in subst (λ a. EndsSo m p a (told_around (segment_end url m p Normal w))) (note_around url w (Ends m)) (done_so m p _ t.0 t.1)
  segment_so url m p (Thrown v) w = let t = note url w (Throws m) in subst (λ a. EndsSo m p a (told_around (segment_end url m p (Thrown v) w))) (note_around url w (Throws m)) (done_so m p _ t.0 t.1)
  segment_so url m p (Awaiting v rest) w = EndsSo.stands v rest
  segment_so url m p (Stopped why) w = EndsSo.stays

  -- where a body that doesn't await has ended, if it has
  abbrev IsRan : Option (AnswerWith (Ran (Value N)) (State N I)) → State N I → Type 0
  IsRan None w = Unit {0}
  IsRan (Some t) w = told_around t ≡ around w

  ran_around : (how : Ran (Value N)) (r : Result (Unit {0}) Limit) (w v : State N I) → around w ≡ around v → IsRan (ran_by how (r, w)) v
  ran_around how (Ok noted) w v e = e
  ran_around how (Err why) w v e = e

  body_around : (url : N → List ℕ) (m : N) (how : Ended N) (w : State N I) → IsRan (body_end url m how w) w
  body_around url m Normal w = let t = note url w (Ends m) in ran_around _ t.0 t.1 w (note_around url w (Ends m))
  body_around url m (Thrown v) w = let t = note url w (Throws m) in ran_around _ t.0 t.1 w (note_around url w (Throws m))
  body_around url m (Awaiting v rest) w = tt
  body_around url m (Stopped why) w = refl

  ran_is : (w : State N I) {o : Option (AnswerWith (Ran (Value N)) (State N I))} {t : AnswerWith (Ran (Value N)) (State N I)} → o ≡ Some t → IsRan o w → told_around t ≡ around w
  ran_is w e h = subst (λ o. IsRan o w) e h

-- a relation that stays, goes on, and holds where an error is made, of an import() that is refused at once, and of one that begins with a
-- new promise
pub record LastsOuter {N I : Type 0} (begins : Importing N I) (Keep : Outer N I → Outer N I → Type 0) : Type 0 where
  pub same : (o : Outer N I) → Keep o o
  pub on : {o x y : Outer N I} → Keep o x → Keep x y → Keep o y
  pub errors : (o : Outer N I) (es : Errors) → Keep o (with_errors o es)
  pub refuses : (o : Outer N I) (es : Errors) (v : Value N) → Keep o (settles (with_errors (makes o) es) (next_promise o.promises) (Rejected v))
  pub imports : (o x : Outer N I) (m : N) (text : List ℕ) (r : Result (Unit {0}) Limit) → begins (makes o) m text (next_promise o.promises) r x → Keep o x

-- the relation, where the same bodies stand at an await
pub record KeepsAround {N I : Type 0} (Keep : Outer N I → Outer N I → Type 0) (v w : Around N I) : Type 0 where
  pub outer : Keep v.0 w.0
  pub standing : w.1 ≡ v.1

-- what a call for a body that awaits keeps up to its end, and how it ends
pub record CallEnds {N I : Type 0} (Keep : Outer N I → Outer N I → Type 0) (m : N) (done : ℕ) (v w : Around N I) : Type 0 where
  pub late : Around N I
  pub keeps : KeepsAround Keep v late
  pub ends : EndsSo m done late w

module _ {N I : Type 0} (same : N → N → Bool) (modules : I → Modules N) (begins : Importing N I) (Keep : Outer N I → Outer N I → Type 0) (k : LastsOuter begins Keep) where
  abbrev K : Around N I → Around N I → Type 0
  K v w = KeepsAround Keep v w

  kept : {v w : Around N I} → w ≡ v → K v w
  kept {v} e = record { outer = subst (λ w. Keep v.0 w.0) (sym e) (k.same v.0); standing = ap (λ (w : Around N I). w.1) e }

  on : {u v w : Around N I} → K u v → K v w → K u w
  on p q = record { outer = k.on p.outer q.outer; standing = q.standing ∙ p.standing }

  module _ (m : N) where
    abbrev inner_around : {A : Type 0} → AnswerWith A (Inner N I) → Around N I
    inner_around t = around t.1.state

    abbrev KeepInner : Inner N I → Inner N I → Type 0
    KeepInner v w = K (around v.state) (around w.state)

    new_keeps : (w : Inner N I) (es : Errors) → K (around w.state) (with_errors w.state.outer es, w.state.engine.standing)
    new_keeps w es = record { outer = k.errors w.state.outer es; standing = refl }

    read_keeps : (w : Inner N I) (x : List ℕ) (r : Reading (Value N)) → K (around w.state) (inner_around (read_answer w x r))
    read_keeps w x (reading.Value v) = kept refl
    read_keeps w x reading.Unset = new_keeps w _
    read_keeps w x reading.Undeclared = new_keeps w _

    by_told : {A : Type 0} (w : Inner N I) {t u : AnswerWith A (Inner N I)} → t ≡ u → K (around w.state) (inner_around u) → K (around w.state) (inner_around t)
    by_told w e h = subst (λ t. K (around w.state) (inner_around t)) (sym e) h

    member_keeps : (w : Inner N I) (v : Value N) (x : List ℕ) (t : AnswerWith (Completion (Value N)) (Inner N I)) → ReadsMemberOf same modules begins m w v x t → K (around w.state) (inner_around t)
    member_keeps w Undefined x t p = by_told w p (new_keeps w _)
    member_keeps w (Truth b) x t p = by_told w p (new_keeps w _)
    member_keeps w (Text s) x t p = by_told w p (new_keeps w _)
    member_keeps w (Func n i) x t p = by_told w p (new_keeps w _)
    member_keeps w (Error i) x t p = by_told w p (kept refl)
    member_keeps w (Namespace n) x t p = by_told w p.2 (read_keeps w x p.0)
    member_keeps w (Promise i) x t p = by_told w p (new_keeps w _)

    begin_keeps : (w : Inner N I) (text : Option (List ℕ)) (t : AnswerWith (Value N) (Inner N I)) → BeginsBy same modules begins m w text t → K (around w.state) (inner_around t)
    begin_keeps w None t p = by_told w p (record { outer = k.refuses w.state.outer _ _; standing = refl })
    begin_keeps w (Some text) t p = by_told w p.3 (record { outer = k.imports w.state.outer p.1 m text p.0 p.2; standing = refl })

    tells_keeps : (w : Inner N I) (a : Act (Value N)) (t : AnswerWith (AnswerTo a) (Inner N I)) → AnswersAct same modules begins m w a t → K (around w.state) (inner_around t)
    tells_keeps w (act.Read x) t p = by_told w p.2 (read_keeps w x p.0)
    tells_keeps w (act.Member of x) t p = member_keeps w of x t p
    tells_keeps w (act.Display of) t p = by_told w p.2 (kept refl)
    tells_keeps w (act.Print vs) t p = by_told w p.2 (kept (line_around w.state (printed_line p.0)))
    tells_keeps w (act.Fault kind message) t p = by_told w p (new_keeps w _)
    tells_keeps w (act.Step steps) t p = by_told w p (kept (by_steps w.state steps (nat_lt MAX_STEPS (w.state.engine.steps + steps))))
    tells_keeps w (act.Import of) t p = begin_keeps w (text_of w.state.outer.errors of) t p

    acts_stay : Stays (Performs same modules begins m) KeepInner
    acts_stay = record { same = λ w. kept refl; on = λ p q. on p q; call = λ {v} {w} {a} {r} p. tells_keeps v a (r, w) p }

    set_keeps : (ss : List (Scope (Value N))) (w : State N I) (x : List ℕ) (v : Value N) → around (set_at same modules begins m ss w x v).state ≡ around w
    set_keeps [] w x v = refl
    set_keeps (s ∷ ss) w x v = refl

    by_module : (w : Inner N I) (x : List ℕ) (r : Writing N) → K (around w.state) (around (module_write same modules begins m w x r).1.state)
    by_module w x (writing.Done cells) = kept refl
    by_module w x writing.Unset = new_keeps w _
    by_module w x writing.Constant = new_keeps w _
    by_module w x writing.Undeclared = new_keeps w _

    by_scope : (w : Inner N I) (x : List ℕ) (v : Value N) (constant : Bool) (old : Option (Value N)) → K (around w.state) (around (scope_write same modules begins m w x v constant old).1.state)
    by_scope w x v constant None = new_keeps w _
    by_scope w x v true (Some old) = new_keeps w _
    by_scope w x v false (Some old) = kept refl

    by_write : (w : Inner N I) (x : List ℕ) (v : Value N) (c : Option (Cell (Value N))) → K (around w.state) (around (write_in same modules begins m w x v c).1.state)
    by_write w x v (Some c) = by_scope w x v c.constant c.value
    by_write w x v None = by_module w x (writing_of same (modules_of modules w.state) w.state.cells m x v)

    moves_keep : {v : Inner N I} {r : Rest (Value N)} {move : RewrittenBody (Value N) Limit} {w : Inner N I} → RewritesBody same modules begins m v r move w → KeepInner v w
    moves_keep (begins_at p) = follows_keeps (Performs same modules begins m) KeepInner acts_stay p
    moves_keep (does s) = step_keeps (Performs same modules begins m) KeepInner acts_stay (values same) (own_url same modules begins m) s
    moves_keep drops = kept refl
    moves_keep {v} (sets {x = x} {v = u}) = kept (set_keeps v.scopes v.state x u)
    moves_keep {v} (writes {x = x} {v = u}) = by_write v x u (in_scopes v.scopes x)
    moves_keep throws = kept refl
    moves_keep returns = kept refl
    moves_keep (prints p) = follows_keeps (Performs same modules begins m) KeepInner acts_stay p
    moves_keep chooses = kept refl
    moves_keep awaits = kept refl
    moves_keep (inner p) = moves_keep p
    moves_keep inner_end = kept refl
    moves_keep (tries p) = moves_keep p
    moves_keep tries_end = kept refl

  abbrev next_around : Next N I → Around N I
  next_around (Goes m s callers w) = around w
  next_around (Over how w) = around w

  abbrev IsKept : State N I → Option (Next N I) → Type 0
  IsKept w None = Unit {0}
  IsKept w (Some n) = K (around w) (next_around n)

  by_call : (b : Bool) (m : N) (s : Rest (Value N)) (cs : List (Active N)) (w : State N I) (callee : Option (Active N)) → IsKept w (call_by same modules begins b m s cs w callee)
  by_call true m s cs w (Some c) = kept refl
  by_call true m s cs w None = tt
  by_call false m s cs w callee = record { outer = k.errors w.outer _; standing = refl }

  next_keeps : (m : N) (cs : List (Active N)) (move : RewrittenBody (Value N) Limit) (w : State N I) → IsKept w (next_by same modules begins m cs move w)
  next_keeps m cs (On (comes.Goes s)) w = kept refl
  next_keeps m [] (On (comes.Leaves v)) w = kept refl
  next_keeps m (c ∷ cs) (On (comes.Leaves v)) w = kept refl
  next_keeps m cs (On (comes.Calls f vs s)) w = by_call (nat_lt (length cs) MAX_CALL_DEPTH) m s cs w (called (modules_of modules w) f vs)
  next_keeps m cs (On (comes.Stops why)) w = kept refl
  next_keeps m [] (Gives v) w = tt
  next_keeps m (c ∷ cs) (Gives v) w = kept refl
  next_keeps m [] (Waits v s) w = kept refl
  next_keeps m (c ∷ cs) (Waits v s) w = tt

  next_is : (w : State N I) {o : Option (Next N I)} {n : Next N I} → o ≡ Some n → IsKept w o → K (around w) (next_around n)
  next_is w e h = subst (λ o. IsKept w o) e h

  -- a segment keeps it
  pub segment_around : {v : State N I} {m : N} {r : Rest (Value N)} {cs : List (Active N)} {how : Ended N} {w : State N I} → Segment same modules begins v m r cs how w → K (around v) (around w)
  segment_around segment.ends = kept refl
  segment_around (segment.returns p) = segment_around p
  segment_around {m = m} {cs = cs} (segment.goes {mid = mid} move p e q) = on (moves_keep m p) (on (next_is mid e (next_keeps m cs move mid)) (segment_around q))
  segment_around {m = m} {cs = cs} (segment.over {mid = mid} move p e) = on (moves_keep m p) (next_is mid e (next_keeps m cs move mid))

  -- ---- calls for bodies

  pub starts_around : {v : State N I} {m : N} {done : ℕ} {a : Result (Unit {0}) Limit} {w : State N I} → StartsBody same modules begins v m done a w → CallEnds Keep m done (around v) (around w)
  starts_around {v} {m = m} {w = w} (StartsBody.stopped h) = record { late = around w; keeps = kept (noted (url_in same modules begins v) v (Begins m) _ h); ends = EndsSo.stays }
  starts_around {v} {m = m} {done = done} (StartsBody.segment {late = late} {how = how} h p e) = record {
    late = around late;
    keeps = on (kept (noted (url_in same modules begins v) v (Begins m) _ h)) (segment_around p);
    ends = subst (λ t. EndsSo m done (around late) (told_around t)) e (segment_so (url_in same modules begins v) m done how late);
  }

  pub runs_around : {v : State N I} {m : N} {a : Result (Ran (Value N)) Limit} {w : State N I} → RunsBody same modules begins v m a w → K (around v) (around w)
  runs_around {v} {m = m} (RunsBody.stopped h) = kept (noted (url_in same modules begins v) v (Begins m) _ h)
  runs_around {v} {m = m} (RunsBody.segment {late = late} {how = how} h p e) =
      on (kept (noted (url_in same modules begins v) v (Begins m) _ h)) (on (segment_around p) (kept (ran_is late e (body_around (url_in same modules begins v) m how late))))

  pub resumes_around : {v : State N I} {m : N} {how : Settled (Value N)} {a : Result (Unit {0}) Limit} {w : State N I} → (p : ResumesBody same modules begins v m how a w)
      → CallEnds Keep m p.taken.standing.done (v.outer, p.taken.others) (around w)
  resumes_around {v} {m = m} p = record {
    late = around p.late;
    keeps = segment_around p.runs;
    ends = subst (λ t. EndsSo m p.taken.standing.done (around p.late) (told_around t)) p.ends (segment_so (url_in same modules begins v) m p.taken.standing.done p.ended p.late);
  }
