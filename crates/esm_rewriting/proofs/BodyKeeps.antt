-- What import() keeps of what it reads and writes, bodies keep; and a body that runs begins no other.
use Rattle.std.proofs.Common.{◌≡◌, ◌⊎◌, inl, inr, ℕ, ◌+◌, Bool, true, false, List, [], ◌∷◌, Option, Some, None, refl, ap, subst, sym, ◌∙◌}
use Rattle.std.specs.Prelude.{Result, Ok, Err, nat_lt, length, ◌++◌, ◌||◌}
use Rattle.std.specs.List.{list_any}
use Rattle.esm_base.specs.declared.limits.Limit.{Limit}
use Rattle.esm_base.specs.declared.limits.TheConstants.{MAX_STEPS, MAX_LOG_BYTES, MAX_CALL_DEPTH}
use Rattle.esm_values.specs.Value.{Value, Undefined, Truth, Text, Func, Error, Namespace, Promise}
use Rattle.esm_values.specs.Ran.{Ran}
use Rattle.esm_values.specs.Display.{printed_line}
use Rattle.esm_values.specs.Completion.{Completion}
use Rattle.esm_values.specs.Acts.{Act, AnswerTo}
use Rattle.esm_values.specs.Acts.{Act as act}
use Rattle.esm_values.specs.Plans.{Rewritten as comes}
use Rattle.esm_values.specs.Operators.{values, text_of}
use Rattle.esm_promise.specs.Promises.{Settled}
use Rattle.esm_promise.specs.Outer.{Outer}
use Rattle.esm_env.specs.Modules.{Modules}
use Rattle.esm_env.specs.Cells.{Cell, Reading}
use Rattle.esm_env.specs.Cells.{Reading as reading}
use Rattle.esm_env.specs.Writing.{Writing, writing_of}
use Rattle.esm_env.specs.Writing.{Writing as writing}
use Rattle.esm_rewriting.specs.Scopes.{Scope, in_scopes}
use Rattle.esm_rewriting.specs.Rest.{Rest}
use Rattle.esm_rewriting.specs.State.{Event, Begins, Ends, Throws, State, Importing, AnswerWith, take_steps, steps_by, add_line, line_by, note, note_by, event_behind, event_line, add_event, begins_at as begins_by}
use Rattle.esm_rewriting.specs.Acts.{Inner, Performs, AnswersAct, ReadsMemberOf, BeginsBy, read_answer, set_at, write_in, scope_write, module_write, modules_of}
use Rattle.esm_rewriting.specs.BodyRewriting.{RewrittenBody, On, Gives, Waits, RewritesBody, own_url}
use Rattle.esm_rewriting.specs.BodyRewriting.RewritesBody.{begins_at, does, drops, sets, writes, throws, returns, prints, chooses, awaits, inner, inner_end, tries, tries_end}
use Rattle.esm_rewriting.specs.Segment.{Active, Ended, Normal, Thrown, Awaiting, Stopped, Next, Goes, Over, Segment, next_by, call_by, called}
use Rattle.esm_rewriting.specs.Segment.{Segment as segment}
use Rattle.esm_rewriting.specs.Bodies.{StartsBody, RunsBody, ResumesBody, segment_end, settle_done, body_end, ran_by, url_in}
use Rattle.esm_rewriting.specs.Keeps.{started, ChangedBy, BodiesKeep, BodiesBegin}
use Rattle.esm_rewriting.proofs.ExprKeeps.{Stays, follows_keeps, step_keeps}

-- what is looked at: what import() reads and writes, and which bodies have begun
abbrev pub Seen : Type 0 → Type 0 → Type 0
Seen N I = I × List N

pub started_on : {N : Type 0} (es : List (Event N)) (e : Event N) → started (es ++ e ∷ []) ≡ started es ++ started (e ∷ [])
started_on [] (Begins x) = refl
started_on [] (Ends x) = refl
started_on [] (Throws x) = refl
started_on (Begins y ∷ es) e = ap (λ xs. y ∷ xs) (started_on es e)
started_on (Ends y ∷ es) e = started_on es e
started_on (Throws y ∷ es) e = started_on es e

-- an event that isn't a start
abbrev IsQuiet : {N : Type 0} → Event N → Type 0
IsQuiet e = started (e ∷ []) ≡ []

on_nil : {A : Type 0} (xs : List A) → xs ++ [] ≡ xs
on_nil [] = refl
on_nil (x ∷ xs) = ap (λ ys. x ∷ ys) (on_nil xs)

started_quiet : {N : Type 0} (es : List (Event N)) (e : Event N) → IsQuiet e → started (es ++ e ∷ []) ≡ started es
started_quiet es e q = started_on es e ∙ ap (λ ys. started es ++ ys) q ∙ on_nil (started es)

module _ {N I : Type 0} where
  abbrev pub seen : State N I → Seen N I
  seen w = (w.outer.imports, started w.engine.events)

  abbrev told_seen : {A : Type 0} → AnswerWith A (State N I) → Seen N I
  told_seen t = seen t.1

  abbrev inner_seen : {A : Type 0} → AnswerWith A (Inner N I) → Seen N I
  inner_seen t = seen t.1.state

  by_steps : (w : State N I) (n : ℕ) (b : Bool) → told_seen (steps_by b w n) ≡ seen w
  by_steps w n true = refl
  by_steps w n false = refl

  take_keeps : (w : State N I) (n : ℕ) → told_seen (take_steps w n) ≡ seen w
  take_keeps w n = by_steps w n (nat_lt MAX_STEPS (w.engine.steps + n))

  by_line : (w : State N I) (text : List ℕ) (b : Bool) → told_seen (line_by b w text) ≡ seen w
  by_line w text true = refl
  by_line w text false = refl

  line_keeps : (w : State N I) (text : List ℕ) → told_seen (add_line w text) ≡ seen w
  line_keeps w text = by_line w text (nat_lt MAX_LOG_BYTES (length w.engine.log + length text + 1))

  behind_keeps : (event : Event N) (r : Result (Unit {0}) Limit) (w : State N I) → IsQuiet event → told_seen (event_behind event (r, w)) ≡ seen w
  behind_keeps event (Ok done) w q = λ i. (w.outer.imports, started_quiet w.engine.events event q i)
  behind_keeps event (Err limit) w q = refl

  by_note : (url : N → List ℕ) (w : State N I) (event : Event N) (b : Bool) → IsQuiet event → told_seen (note_by b url w event) ≡ seen w
  by_note url w event true q = let t = add_line w (event_line url event) in behind_keeps event t.0 t.1 q ∙ line_keeps w (event_line url event)
  by_note url w event false q = λ i. (w.outer.imports, started_quiet w.engine.events event q i)

  note_keeps : (url : N → List ℕ) (w : State N I) (event : Event N) → IsQuiet event → told_seen (note url w event) ≡ seen w
  note_keeps url w event q = by_note url w event w.engine.trace q

  read_keeps : (w : Inner N I) (x : List ℕ) (r : Reading (Value N)) → inner_seen (read_answer w x r) ≡ seen w.state
  read_keeps w x (reading.Value v) = refl
  read_keeps w x reading.Unset = refl
  read_keeps w x reading.Undeclared = refl

  done_keeps : (p : ℕ) (how : Settled (Value N)) (r : Result (Unit {0}) Limit) (w : State N I) → told_seen (settle_done p how (r, w)) ≡ seen w
  done_keeps p how (Ok noted) w = refl
  done_keeps p how (Err why) w = refl

  segment_keeps : (url : N → List ℕ) (m : N) (p : ℕ) (how : Ended N) (w : State N I) → told_seen (segment_end url m p how w) ≡ seen w
  segment_keeps url m p Normal w = let t = note url w (Ends m) in done_keeps p _ t.0 t.1 ∙ note_keeps url w (Ends m) refl
  segment_keeps url m p (Thrown v) w = let t = note url w (Throws m) in done_keeps p _ t.0 t.1 ∙ note_keeps url w (Throws m) refl
  segment_keeps url m p (Awaiting v rest) w = refl
  segment_keeps url m p (Stopped why) w = refl

  -- where a body that doesn't await has ended, if it has
  abbrev IsRan : Option (AnswerWith (Ran (Value N)) (State N I)) → State N I → Type 0
  IsRan None w = Unit {0}
  IsRan (Some t) w = told_seen t ≡ seen w

  ran_keeps : (how : Ran (Value N)) (r : Result (Unit {0}) Limit) (w v : State N I) → seen w ≡ seen v → IsRan (ran_by how (r, w)) v
  ran_keeps how (Ok noted) w v e = e
  ran_keeps how (Err why) w v e = e

  body_keeps : (url : N → List ℕ) (m : N) (how : Ended N) (w : State N I) → IsRan (body_end url m how w) w
  body_keeps url m Normal w = let t = note url w (Ends m) in ran_keeps _ t.0 t.1 w (note_keeps url w (Ends m) refl)
  body_keeps url m (Thrown v) w = let t = note url w (Throws m) in ran_keeps _ t.0 t.1 w (note_keeps url w (Throws m) refl)
  body_keeps url m (Awaiting v rest) w = tt
  body_keeps url m (Stopped why) w = refl

  ran_is : (w : State N I) {o : Option (AnswerWith (Ran (Value N)) (State N I))} {t : AnswerWith (Ran (Value N)) (State N I)} → o ≡ Some t → IsRan o w → told_seen t ≡ seen w
  ran_is w e h = subst (λ o. IsRan o w) e h

-- a relation that stays, goes on, and holds of each import()
pub record Imported {N I : Type 0} (begins : Importing N I) (Keep : I → I → Type 0) : Type 0 where
  pub same : (i : I) → Keep i i
  pub on : {i j k : I} → Keep i j → Keep j k → Keep i k
  pub call : {o x : Outer N I} {m : N} {text : List ℕ} {p : ℕ} {r : Result (Unit {0}) Limit} → begins o m text p r x → Keep o.imports x.imports

-- the relation, where no body begins
pub record KeepsSeen {N I : Type 0} (Keep : I → I → Type 0) (v w : Seen N I) : Type 0 where
  pub imports : Keep v.0 w.0
  pub starts : w.1 ≡ v.1

module _ {N I : Type 0} (same : N → N → Bool) (modules : I → Modules N) (begins : Importing N I) (Keep : I → I → Type 0) (k : Imported begins Keep) where
  abbrev K : Seen N I → Seen N I → Type 0
  K = KeepsSeen Keep

  kept : {i j : Seen N I} → j ≡ i → K i j
  kept {i} e = subst (λ j. K i j) (sym e) (record { imports = k.same i.0; starts = refl })

  on : {i j l : Seen N I} → K i j → K j l → K i l
  on p q = record { imports = k.on p.imports q.imports; starts = q.starts ∙ p.starts }

  abbrev KeepInner : Inner N I → Inner N I → Type 0
  KeepInner v w = K (seen v.state) (seen w.state)

  module _ (m : N) where
    by_told : {A : Type 0} (w : Inner N I) {t u : AnswerWith A (Inner N I)} → t ≡ u → inner_seen u ≡ seen w.state → K (seen w.state) (inner_seen t)
    by_told w e f = kept (ap (λ t. inner_seen t) e ∙ f)

    member_keeps : (w : Inner N I) (v : Value N) (x : List ℕ) (t : AnswerWith (Completion (Value N)) (Inner N I)) → ReadsMemberOf same modules begins m w v x t → K (seen w.state) (inner_seen t)
    member_keeps w Undefined x t p = by_told w p refl
    member_keeps w (Truth b) x t p = by_told w p refl
    member_keeps w (Text s) x t p = by_told w p refl
    member_keeps w (Func n i) x t p = by_told w p refl
    member_keeps w (Error i) x t p = by_told w p refl
    member_keeps w (Namespace n) x t p = by_told w p.2 (read_keeps w x p.0)
    member_keeps w (Promise i) x t p = by_told w p refl

    begin_keeps : (w : Inner N I) (text : Option (List ℕ)) (t : AnswerWith (Value N) (Inner N I)) → BeginsBy same modules begins m w text t → K (seen w.state) (inner_seen t)
    begin_keeps w None t p = by_told w p refl
    begin_keeps w (Some text) t p = on (record { imports = k.call p.2; starts = refl }) (kept (ap (λ t. inner_seen t) p.3))

    tells_keeps : (w : Inner N I) (a : Act (Value N)) (t : AnswerWith (AnswerTo a) (Inner N I)) → AnswersAct same modules begins m w a t → K (seen w.state) (inner_seen t)
    tells_keeps w (act.Read x) t p = by_told w p.2 (read_keeps w x p.0)
    tells_keeps w (act.Member of x) t p = member_keeps w of x t p
    tells_keeps w (act.Display of) t p = by_told w p.2 refl
    tells_keeps w (act.Print vs) t p = by_told w p.2 (line_keeps w.state (printed_line p.0))
    tells_keeps w (act.Fault kind message) t p = by_told w p refl
    tells_keeps w (act.Step steps) t p = by_told w p (take_keeps w.state steps)
    tells_keeps w (act.Import of) t p = begin_keeps w (text_of w.state.outer.errors of) t p

    acts_stay : Stays (Performs same modules begins m) KeepInner
    acts_stay = record { same = λ w. kept refl; on = λ p q. on p q; call = λ {v} {w} {a} {r} p. tells_keeps v a (r, w) p }

    set_keeps : (ss : List (Scope (Value N))) (w : State N I) (x : List ℕ) (v : Value N) → seen (set_at same modules begins m ss w x v).state ≡ seen w
    set_keeps [] w x v = refl
    set_keeps (s ∷ ss) w x v = refl

    by_module : (w : Inner N I) (x : List ℕ) (r : Writing N) → seen (module_write same modules begins m w x r).1.state ≡ seen w.state
    by_module w x (writing.Done cells) = refl
    by_module w x writing.Unset = refl
    by_module w x writing.Constant = refl
    by_module w x writing.Undeclared = refl

    by_scope : (w : Inner N I) (x : List ℕ) (v : Value N) (constant : Bool) (old : Option (Value N)) → seen (scope_write same modules begins m w x v constant old).1.state ≡ seen w.state
    by_scope w x v constant None = refl
    by_scope w x v true (Some old) = refl
    by_scope w x v false (Some old) = refl

    by_write : (w : Inner N I) (x : List ℕ) (v : Value N) (c : Option (Cell (Value N))) → seen (write_in same modules begins m w x v c).1.state ≡ seen w.state
    by_write w x v (Some c) = by_scope w x v c.constant c.value
    by_write w x v None = by_module w x (writing_of same (modules_of modules w.state) w.state.cells m x v)

    moves_keep : {v : Inner N I} {r : Rest (Value N)} {move : RewrittenBody (Value N) Limit} {w : Inner N I} → RewritesBody same modules begins m v r move w → KeepInner v w
    moves_keep (begins_at p) = follows_keeps (Performs same modules begins m) KeepInner acts_stay p
    moves_keep (does s) = step_keeps (Performs same modules begins m) KeepInner acts_stay (values same) (own_url same modules begins m) s
    moves_keep drops = kept refl
    moves_keep {v} (sets {x = x} {v = u}) = kept (set_keeps v.scopes v.state x u)
    moves_keep {v} (writes {x = x} {v = u}) = kept (by_write v x u (in_scopes v.scopes x))
    moves_keep throws = kept refl
    moves_keep returns = kept refl
    moves_keep (prints p) = follows_keeps (Performs same modules begins m) KeepInner acts_stay p
    moves_keep chooses = kept refl
    moves_keep awaits = kept refl
    moves_keep (inner p) = moves_keep p
    moves_keep inner_end = kept refl
    moves_keep (tries p) = moves_keep p
    moves_keep tries_end = kept refl

  abbrev next_seen : Next N I → Seen N I
  next_seen (Goes m s callers w) = seen w
  next_seen (Over how w) = seen w

  abbrev IsKept : State N I → Option (Next N I) → Type 0
  IsKept w None = Unit {0}
  IsKept w (Some n) = next_seen n ≡ seen w

  by_call : (b : Bool) (m : N) (s : Rest (Value N)) (cs : List (Active N)) (w : State N I) (callee : Option (Active N)) → IsKept w (call_by same modules begins b m s cs w callee)
  by_call true m s cs w (Some c) = refl
  by_call true m s cs w None = tt
  by_call false m s cs w callee = refl

  next_keeps : (m : N) (cs : List (Active N)) (move : RewrittenBody (Value N) Limit) (w : State N I) → IsKept w (next_by same modules begins m cs move w)
  next_keeps m cs (On (comes.Goes s)) w = refl
  next_keeps m [] (On (comes.Leaves v)) w = refl
  next_keeps m (c ∷ cs) (On (comes.Leaves v)) w = refl
  next_keeps m cs (On (comes.Calls f vs s)) w = by_call (nat_lt (length cs) MAX_CALL_DEPTH) m s cs w (called (modules_of modules w) f vs)
  next_keeps m cs (On (comes.Stops why)) w = refl
  next_keeps m [] (Gives v) w = tt
  next_keeps m (c ∷ cs) (Gives v) w = refl
  next_keeps m [] (Waits v s) w = refl
  next_keeps m (c ∷ cs) (Waits v s) w = tt

  next_is : (w : State N I) {o : Option (Next N I)} {n : Next N I} → o ≡ Some n → IsKept w o → next_seen n ≡ seen w
  next_is w e h = subst (λ o. IsKept w o) e h

  pub runs_keep : {v : State N I} {m : N} {r : Rest (Value N)} {cs : List (Active N)} {how : Ended N} {w : State N I} → Segment same modules begins v m r cs how w → K (seen v) (seen w)
  runs_keep segment.ends = kept refl
  runs_keep (segment.returns p) = runs_keep p
  runs_keep {m = m} {cs = cs} (segment.goes {mid = mid} move p e q) = on (moves_keep m p) (on (kept (next_is mid e (next_keeps m cs move mid))) (runs_keep q))
  runs_keep {m = m} {cs = cs} (segment.over {mid = mid} move p e) = on (moves_keep m p) (kept (next_is mid e (next_keeps m cs move mid)))

  -- a body begins, or a limit stops its trace line
  pub data Begun (m : N) : Seen N I → Seen N I → Type 0 where
    not : {v : Seen N I} → Begun m v v
    begun : {v : Seen N I} → Begun m v (v.0, v.1 ++ m ∷ [])

  begin_event : (url : N → List ℕ) (w : State N I) (m : N) (r : Result (Unit {0}) Limit) (u : State N I) → seen u ≡ seen w → Begun m (seen w) (told_seen (event_behind (Begins m) (r, u)))
  begin_event url w m (Ok done) u e =
      let new : told_seen (event_behind (Begins m) (Ok done, u)) ≡ (u.outer.imports, started u.engine.events ++ m ∷ []) = λ i. (u.outer.imports, started_on u.engine.events (Begins m) i) in
      subst (λ s. Begun m (seen w) s) (sym (new ∙ ap (λ (s : Seen N I). (s.0, s.1 ++ m ∷ [])) e)) Begun.begun
  begin_event url w m (Err limit) u e = subst (λ s. Begun m (seen w) s) (sym e) Begun.not

  note_begins : (url : N → List ℕ) (w : State N I) (m : N) (b : Bool) → Begun m (seen w) (told_seen (note_by b url w (Begins m)))
  note_begins url w m true = let t = add_line w (event_line url (Begins m)) in begin_event url w m t.0 t.1 (line_keeps w (event_line url (Begins m)))
  note_begins url w m false = begin_event url w m (Ok tt) w refl

  -- what a call for a body keeps: the relation, and that it begins at most its own body
  pub record Called (m : N) (v w : Seen N I) : Type 0 where
    pub imports : Keep v.0 w.0
    pub starts : (w.1 ≡ v.1) ⊎ (w.1 ≡ v.1 ++ m ∷ [])

  begun_on : (m : N) {v u w : Seen N I} → Begun m v u → K u w → Called m v w
  begun_on m Begun.not q = record { imports = q.imports; starts = inl q.starts }
  begun_on m Begun.begun q = record { imports = q.imports; starts = inr q.starts }

  noted : (url : N → List ℕ) (w : State N I) (m : N) {t : AnswerWith (Unit {0}) (State N I)} → note url w (Begins m) ≡ t → Begun m (seen w) (told_seen t)
  noted url w m e = subst (λ t. Begun m (seen w) (told_seen t)) e (note_begins url w m w.engine.trace)

  pub starts_body_keeps : {v : State N I} {m : N} {done : ℕ} {a : Result (Unit {0}) Limit} {w : State N I} → StartsBody same modules begins v m done a w → Called m (seen v) (seen w)
  starts_body_keeps {v} {m = m} (StartsBody.stopped h) = begun_on m (noted (url_in same modules begins v) v m h) (kept refl)
  starts_body_keeps {v} {m = m} {done = done} (StartsBody.segment {late = late} {how = how} h p e) =
      begun_on m (noted (url_in same modules begins v) v m h)
      (on (runs_keep p) (kept (ap (λ t. told_seen t) (sym e) ∙ segment_keeps (url_in same modules begins v) m done how late)))

  pub runs_body_keeps : {v : State N I} {m : N} {a : Result (Ran (Value N)) Limit} {w : State N I} → RunsBody same modules begins v m a w → Called m (seen v) (seen w)
  runs_body_keeps {v} {m = m} (RunsBody.stopped h) = begun_on m (noted (url_in same modules begins v) v m h) (kept refl)
  runs_body_keeps {v} {m = m} (RunsBody.segment {late = late} {how = how} h p e) =
      begun_on m (noted (url_in same modules begins v) v m h)
      (on (runs_keep p) (kept (ran_is late e (body_keeps (url_in same modules begins v) m how late))))

  pub resumes_body_keeps : {v : State N I} {m : N} {how : Settled (Value N)} {a : Result (Unit {0}) Limit} {w : State N I} → ResumesBody same modules begins v m how a w → KeepsSeen Keep (seen v) (seen w)
  resumes_body_keeps {v} {m = m} p = on (runs_keep p.runs) (kept (ap (λ t. told_seen t) (sym p.ends) ∙ segment_keeps (url_in same modules begins v) m p.taken.standing.done p.ended p.late))

  ok_begins : (event : Event N) (r : Result (Unit {0}) Limit) (u : State N I) {mid : State N I} → event_behind event (r, u) ≡ (Ok tt, mid) → mid ≡ add_event event u
  ok_begins event (Ok done) u e = sym (ap (λ t. t.1) e)
  ok_begins event (Err limit) u e = absurd (let k : ◌≡◌ {A = Result (Unit {0}) Limit} (Err limit) (Ok tt) = ap (λ t. t.0) e in cc)

  by_noted : (url : N → List ℕ) (w : State N I) (m : N) (b : Bool) {mid : State N I} → note_by b url w (Begins m) ≡ (Ok tt, mid) → started mid.engine.events ≡ started w.engine.events ++ m ∷ []
  by_noted url w m true {mid} e =
      let t = add_line w (event_line url (Begins m)) in
      let f = ok_begins (Begins m) t.0 t.1 e in
      ap (λ (s : State N I). started s.engine.events) f ∙ started_on t.1.engine.events (Begins m) ∙ ap (λ (s : Seen N I). s.1 ++ m ∷ []) (line_keeps w (event_line url (Begins m)))
  by_noted url w m false {mid} e = ap (λ (s : State N I). started s.engine.events) (sym (ap (λ t. t.1) e)) ∙ started_on w.engine.events (Begins m)

  err_ok : {A : Type 0} {limit : Limit} {a : A} → ◌≡◌ {A = Result A Limit} (Err limit) (Ok a) → ⊥
  err_ok e = cc

  -- a body whose call isn't stopped has begun
  pub starts_body_begins : {v : State N I} {m : N} {done : ℕ} {r : Result (Unit {0}) Limit} {w : State N I} → StartsBody same modules begins v m done r w → r ≡ Ok tt → started w.engine.events ≡ started v.engine.events ++ m ∷ []
  starts_body_begins (StartsBody.stopped h) e = absurd (err_ok e)
  starts_body_begins {v} {m = m} {done = done} {w = w} (StartsBody.segment {late = late} {how = how} h p f) e =
      let k : KeepsSeen Keep (seen late) (seen w) = kept (ap (λ t. told_seen t) (sym f) ∙ segment_keeps (url_in same modules begins v) m done how late) in
      k.starts ∙ (runs_keep p).starts ∙ by_noted (url_in same modules begins v) v m v.engine.trace h

  pub runs_body_begins : {v : State N I} {m : N} {r : Result (Ran (Value N)) Limit} {w : State N I} → RunsBody same modules begins v m r w → (a : Ran (Value N)) → r ≡ Ok a → started w.engine.events ≡ started v.engine.events ++ m ∷ []
  runs_body_begins (RunsBody.stopped h) a e = absurd (err_ok e)
  runs_body_begins {v} {m = m} {w = w} (RunsBody.segment {late = late} {how = how} h p f) a e =
      let k : KeepsSeen Keep (seen late) (seen w) = kept (ran_is late f (body_keeps (url_in same modules begins v) m how late)) in
      k.starts ∙ (runs_keep p).starts ∙ by_noted (url_in same modules begins v) v m v.engine.trace h

-- ---- the laws: what import() reads and writes changes by import() alone

pub changed_on : {N I : Type 0} {begins : Importing N I} {i j k : I} → ChangedBy begins i j → ChangedBy begins j k → ChangedBy begins i k
changed_on p ChangedBy.none = p
changed_on p (ChangedBy.call q b) = ChangedBy.call (changed_on p q) b

pub by_imports : {N I : Type 0} (begins : Importing N I) → Imported begins (ChangedBy begins)
by_imports begins = record { same = λ i. ChangedBy.none; on = λ p q. changed_on p q; call = λ b. ChangedBy.call ChangedBy.none b }

-- what is kept by each import() is kept by all that change it
pub changed_keeps : {N I : Type 0} {begins : Importing N I} {Keep : I → I → Type 0} → Imported begins Keep → {i j : I} → ChangedBy begins i j → Keep i j
changed_keeps k {i} ChangedBy.none = k.same i
changed_keeps k (ChangedBy.call q b) = k.on (changed_keeps k q) (k.call b)

begun_is : {N : Type 0} (same : N → N → Bool) (es : List (Event N)) (m : N) → list_any (begins_by same m) es ≡ list_any (same m) (started es)
begun_is same [] m = refl
begun_is same (Begins x ∷ es) m = ap (λ b. same m x || b) (begun_is same es m)
begun_is same (Ends x ∷ es) m = begun_is same es m
begun_is same (Throws x ∷ es) m = begun_is same es m

module _ {N I : Type 0} (same : N → N → Bool) (modules : I → Modules N) (begins : Importing N I) where
  pub bodies_keep : BodiesKeep same modules begins
  bodies_keep = record {
    start = λ w after m done end p. let c = starts_body_keeps same modules begins (ChangedBy begins) (by_imports begins) p in record { imports = c.imports; starts = c.starts };
    run = λ w after m end p. let c = runs_body_keeps same modules begins (ChangedBy begins) (by_imports begins) p in record { imports = c.imports; starts = c.starts };
    resume = λ w after m how end p. let c = resumes_body_keeps same modules begins (ChangedBy begins) (by_imports begins) p in record { imports = c.imports; starts = c.starts };
  }

  pub bodies_begin : BodiesBegin same modules begins
  bodies_begin = record {
    start = λ w after m done p. starts_body_begins same modules begins (ChangedBy begins) (by_imports begins) p refl;
    run = λ w after m how p. runs_body_begins same modules begins (ChangedBy begins) (by_imports begins) p how refl;
    begun = λ e m. begun_is same e.events m;
  }
