-- A segment takes a step, or leaves promises as they are and less of the body remains at its await.
use Rattle.std.proofs.Common.{◌≡◌, ℕ, suc, ◌+◌, ◌<◌, ◌≤◌, Bool, true, false, List, [], ◌∷◌, Option, Some, None, refl, ap, subst, ◌∙◌, arith}
use Rattle.std.specs.Prelude.{Result, Ok, Err, nat_lt, length}
use Rattle.esm_base.specs.declared.limits.Limit.{Limit}
use Rattle.esm_base.specs.declared.limits.TheConstants.{MAX_STEPS, MAX_LOG_BYTES, MAX_CALL_DEPTH}
use Rattle.esm_tree.specs.Syntax.{Stmts}
use Rattle.esm_values.specs.Value.{Value, Undefined, Truth, Text, Func, Error, Namespace, Promise}
use Rattle.esm_values.specs.Display.{printed_line}
use Rattle.esm_values.specs.Completion.{Completion}
use Rattle.esm_values.specs.Acts.{Act, AnswerTo}
use Rattle.esm_values.specs.Acts.{Act as act}
use Rattle.esm_values.specs.Plans.{Rewritten as comes}
use Rattle.esm_values.specs.Operators.{values, text_of, is_true, look_of}
use Rattle.esm_expr_eval.specs.Terms.{Term, fill}
use Rattle.esm_expr_eval.specs.Terms.Term.{Val, Fails}
use Rattle.esm_expr_eval.specs.Sizes.{size}
use Rattle.esm_promise.specs.Promises.{Promises}
use Rattle.esm_promise.specs.Reactions.{Reaction}
use Rattle.esm_env.specs.Modules.{Modules}
use Rattle.esm_env.specs.Cells.{Cell, Reading}
use Rattle.esm_env.specs.Cells.{Reading as reading}
use Rattle.esm_env.specs.Writing.{Writing, writing_of}
use Rattle.esm_env.specs.Writing.{Writing as writing}
use Rattle.esm_rewriting.specs.Scopes.{Scope, in_scopes}
use Rattle.esm_rewriting.specs.Rest.{Part, Rest, stmt_count, end, more, whole, branch, fill_rest, fill_part}
use Rattle.esm_rewriting.specs.Rest.{Part as part}
use Rattle.esm_rewriting.specs.Rest.{Use as use_of}
use Rattle.esm_rewriting.specs.State.{State, Standing, Importing, AnswerWith, steps_by, line_by}
use Rattle.esm_rewriting.specs.Acts.{Inner, Performs, AnswersAct, ReadsMemberOf, BeginsBy, read_answer, over_scopes, set_at, write_in, scope_write, module_write, modules_of}
use Rattle.esm_rewriting.specs.BodyRewriting.{RewrittenBody, On, Gives, Waits, RewritesBody, own_url, within, caught, wrote}
use Rattle.esm_rewriting.specs.BodyRewriting.RewritesBody.{begins_at, does, drops, sets, writes, throws, returns, prints, chooses, awaits, inner, inner_end, tries, tries_end}
use Rattle.esm_rewriting.specs.Segment.{Active, Ended, Normal, Thrown, Awaiting, Stopped, Next, Goes, Over, Segment, next_by, call_by, called}
use Rattle.esm_rewriting.specs.Segment.{Segment as segment}
use Rattle.esm_rewriting.proofs.Grown.{same_rest}
use Rattle.esm_world.specs.Measure.{weight_part, weight_rest, weight_use}
use Rattle.esm_world.proofs.ExprFalls.{Counts, Calm, Falls, IsOther, Light, follows_falls, inside_falls, rewrites_falls}

-- ---- how much of a body remains

weight_whole : (V : Type 0) (ss : Stmts) → weight_rest {V = V} (whole ss) ≡ stmt_count ss
weight_whole V Stmts.nothing = refl
weight_whole V (Stmts.first s ss) = let r = weight_whole V ss in omega (arith, r)

module _ {V : Type 0} (given : Term V) (one : size given ≡ 1) where
  same_size : (e : Term V) → size (fill given e) ≡ size e
  same_size e = let h = same_rest given one (more (part.Does use_of.Drops e) end) in omega (arith, h)

  mutual
    same_part : (p : Part V) → weight_part (fill_part given p) ≡ weight_part p
    same_part (part.Whole s) = refl
    same_part (part.Does u e) = ap (λ n. weight_use u + n) (same_size e)
    same_part (part.Stands u) = ap (λ n. weight_use u + n) one
    same_part (part.In scope rest) = ap suc (same_weight rest)
    same_part (part.Tries rest x handler) = ap (λ n. suc (suc (n + stmt_count handler))) (same_weight rest)

    pub same_weight : (r : Rest V) → weight_rest (fill_rest given r) ≡ weight_rest r
    same_weight end = refl
    same_weight (more p rest) = λ i. same_part p i + same_weight rest i

-- ---- acts of a body

-- the promises, and the bodies that stand at an await
abbrev pub Waiting : Type 0 → Type 0
Waiting N = Promises (Reaction N) (Value N) × List (Standing N)

-- with the steps that were taken
abbrev pub Counted : Type 0 → Type 0
Counted N = ℕ × Waiting N

module _ {N I : Type 0} where
  abbrev pub waiting : State N I → Waiting N
  waiting w = (w.outer.promises, w.engine.standing)

  abbrev pub counted : State N I → Counted N
  counted w = (w.engine.steps, waiting w)

  abbrev pub told_counted : {A : Type 0} → AnswerWith A (Inner N I) → Counted N
  told_counted t = counted t.1.state

  read_counted : (w : Inner N I) (x : List ℕ) (r : Reading (Value N)) → told_counted (read_answer w x r) ≡ counted w.state
  read_counted w x (reading.Value v) = refl
  read_counted w x reading.Unset = refl
  read_counted w x reading.Undeclared = refl

  line_counted : (w : Inner N I) (text : List ℕ) (b : Bool) → told_counted (over_scopes w (line_by b w.state text)) ≡ counted w.state
  line_counted w text true = refl
  line_counted w text false = refl

  abbrev pub steps_of : Inner N I → ℕ
  steps_of w = w.state.engine.steps

  abbrev pub SamePromises : Inner N I → Inner N I → Type 0
  SamePromises v w = waiting w.state ≡ waiting v.state

  by_steps : (w after : Inner N I) (n : ℕ) (r : Unit {0}) (b : Bool) → (Ok r, after) ≡ over_scopes w (steps_by b w.state n) → (steps_of after ≡ steps_of w + n) × SamePromises w after
  by_steps w after n r true e = absurd (let k : ◌≡◌ {A = Result (Unit {0}) Limit} (Ok r) (Err _) = ap (λ t. t.0) e in cc)
  by_steps w after n r false e = (ap (λ t. t.1.state.engine.steps) e, ap (λ t. waiting t.1.state) e)

  pub import_steps : (w after : Inner N I) (t : AnswerWith (Value N) (Inner N I)) (r : Value N) → (Ok r, after) ≡ t → steps_of t.1 ≡ steps_of w → steps_of after ≡ steps_of w
  import_steps w after t r e h = ap (λ t. steps_of t.1) e ∙ h

module _ {N I : Type 0} (same : N → N → Bool) (modules : I → Modules N) (begins : Importing N I) where
  module _ (m : N) where
    member_counted : (w : Inner N I) (v : Value N) (x : List ℕ) (t : AnswerWith (Completion (Value N)) (Inner N I)) → ReadsMemberOf same modules begins m w v x t → told_counted t ≡ counted w.state
    member_counted w Undefined x t p = ap told_counted p
    member_counted w (Truth b) x t p = ap told_counted p
    member_counted w (Text s) x t p = ap told_counted p
    member_counted w (Func n i) x t p = ap told_counted p
    member_counted w (Error i) x t p = ap told_counted p
    member_counted w (Namespace n) x t p = ap told_counted p.2 ∙ read_counted w x p.0
    member_counted w (Promise i) x t p = ap told_counted p

    pub act_counted : (w : Inner N I) (a : Act (Value N)) (t : AnswerWith (AnswerTo a) (Inner N I)) → IsOther a → AnswersAct same modules begins m w a t → told_counted t ≡ counted w.state
    act_counted w (act.Read x) t o p = ap told_counted p.2 ∙ read_counted w x p.0
    act_counted w (act.Member of x) t o p = member_counted w of x t p
    act_counted w (act.Display of) t o p = ap told_counted p.2
    act_counted w (act.Print vs) t o p = ap told_counted p.2 ∙ line_counted w (printed_line p.0) (nat_lt MAX_LOG_BYTES (length w.state.engine.log + length (printed_line p.0) + 1))
    act_counted w (act.Fault kind message) t o p = ap told_counted p
    act_counted w (act.Step n) t o p = absurd o
    act_counted w (act.Import of) t o p = absurd o

    pub import_counted : (w : Inner N I) (text : Option (List ℕ)) (t : AnswerWith (Value N) (Inner N I)) → BeginsBy same modules begins m w text t → steps_of t.1 ≡ steps_of w
    import_counted w None t p = ap (λ t. steps_of t.1) p
    import_counted w (Some text) t p = ap (λ t. steps_of t.1) p.3

    pub counts : Counts (Performs same modules begins m) steps_of SamePromises
    counts = record {
      same = λ w. refl;
      on = λ p q. q ∙ p;
      step = λ {v} {w} {n} {r} p. by_steps v w n r (nat_lt MAX_STEPS (v.state.engine.steps + n)) p;
      other = λ {v} {w} {a} {r} o p. let e = act_counted v a (Ok r, w) o p in (ap (λ t. t.0) e, ap (λ t. t.1) e);
      imports = λ {v} {w} {of} {r} p. import_counted v (text_of v.state.outer.errors of) (Ok r, w) p;
    }

    abbrev pub C : Inner N I → Inner N I → Type 0
    C = Calm (Performs same modules begins m) steps_of SamePromises counts

    abbrev pub F : {A : Type 0} → (A → ℕ) → ℕ → Inner N I → comes (Value N) Limit A → Inner N I → Type 0
    F = Falls (Performs same modules begins m) steps_of SamePromises counts

    here : (w : Inner N I) → C w w
    here w = record { grows = omega arith; quiet = λ e. refl }

    alike : (v w : Inner N I) → steps_of w ≡ steps_of v → SamePromises v w → C v w
    alike v w e q = record { grows = omega (arith, e); quiet = λ h. q }

    -- what a rewriting of a body comes to, from what has the weight s
    abbrev pub FallsBody : ℕ → Inner N I → RewrittenBody (Value N) Limit → Inner N I → Type 0
    FallsBody s v (On c) w = F weight_rest s v c w
    FallsBody s v (Gives u) w = C v w
    FallsBody s v (Waits u r) w = C v w × (weight_rest r < s)

    pub set_counted : (ss : List (Scope (Value N))) (w : State N I) (x : List ℕ) (v : Value N) → counted (set_at same modules begins m ss w x v).state ≡ counted w
    set_counted [] w x v = refl
    set_counted (s ∷ ss) w x v = refl

    by_module : (w : Inner N I) (x : List ℕ) (r : Writing N) → counted (module_write same modules begins m w x r).1.state ≡ counted w.state
    by_module w x (writing.Done cells) = refl
    by_module w x writing.Unset = refl
    by_module w x writing.Constant = refl
    by_module w x writing.Undeclared = refl

    by_scope : (w : Inner N I) (x : List ℕ) (v : Value N) (constant : Bool) (old : Option (Value N)) → counted (scope_write same modules begins m w x v constant old).1.state ≡ counted w.state
    by_scope w x v constant None = refl
    by_scope w x v true (Some old) = refl
    by_scope w x v false (Some old) = refl

    pub by_write : (w : Inner N I) (x : List ℕ) (v : Value N) (c : Option (Cell (Value N))) → counted (write_in same modules begins m w x v c).1.state ≡ counted w.state
    by_write w x v (Some c) = by_scope w x v c.constant c.value
    by_write w x v None = by_module w x (writing_of same (modules_of modules w.state) w.state.cells m x v)

    wrote_falls : (s : ℕ) (v w : Inner N I) (rest : Rest (Value N)) (o : Option (Value N)) → C v w → weight_rest rest < s → FallsBody s v (wrote rest o) w
    wrote_falls s v w rest None c lt = (c, λ e. lt)
    wrote_falls s v w rest (Some u) c lt = c

    within_falls : (f : Rest (Value N) → Rest (Value N)) (s t n : ℕ) → ((r : Rest (Value N)) → weight_rest (f r) ≡ weight_rest r + n) → t ≡ s + n → (v w : Inner N I) (move : RewrittenBody (Value N) Limit) → FallsBody s v move w → FallsBody t v (within f move) w
    within_falls f s t n e d v w (On c) p = inside_falls (Performs same modules begins m) steps_of SamePromises counts f weight_rest weight_rest s t n e d v w c p
    within_falls f s t n e d v w (Gives u) p = p
    within_falls f s t n e d v w (Waits u r) p = (p.0, let x = e r in let y = p.1 in omega (arith, x, y, d))

    -- of what has this weight in the block of a `try`
    caught_falls : (x : Option (List ℕ)) (handler : Stmts) (rest : Rest (Value N)) (s : ℕ) (v w : Inner N I) (move : RewrittenBody (Value N) Limit) → FallsBody s v move w → FallsBody (suc (suc (s + stmt_count handler)) + weight_rest rest) v (caught x handler rest move) w
    caught_falls x handler rest s v w (On (comes.Goes r)) p = (p.0, λ e. let y = p.1 e in omega (arith, y))
    caught_falls x handler rest s v w (On (comes.Leaves u)) p = (p, λ e. let y = weight_whole (Value N) handler in omega (arith, y))
    caught_falls x handler rest s v w (On (comes.Calls f vs r)) p = p
    caught_falls x handler rest s v w (On (comes.Stops why)) p = tt
    caught_falls x handler rest s v w (Gives u) p = p
    caught_falls x handler rest s v w (Waits u r) p = (p.0, let y = p.1 in omega (arith, y))

    branch_lighter : (b : Bool) (ss others : Stmts) → weight_part (branch (values same) b ss others) < suc (stmt_count ss + stmt_count others) + 1
    branch_lighter true ss others = let e = weight_whole (Value N) ss in omega (arith, e)
    branch_lighter false ss others = let e = weight_whole (Value N) others in omega (arith, e)

    pub moves_fall : {v : Inner N I} {r : Rest (Value N)} {move : RewrittenBody (Value N) Limit} {w : Inner N I} → RewritesBody same modules begins m v r move w → FallsBody (weight_rest r) v move w
    moves_fall (begins_at {s = s} {rest = rest} p) = follows_falls (Performs same modules begins m) steps_of SamePromises counts weight_rest (weight_rest (more (part.Whole s) rest)) Light.heavy p
    moves_fall {v} {w = w} (does {purpose = u} {e = e} {rest = rest} {c = c} s) =
        inside_falls (Performs same modules begins m) steps_of SamePromises counts (λ e. more (part.Does u e) rest) size weight_rest (size e) (weight_rest (more (part.Does u e) rest)) (weight_use u + weight_rest rest) (λ e. omega arith) (omega arith) v w c
        (rewrites_falls (Performs same modules begins m) steps_of SamePromises counts (values same) (own_url same modules begins m) s)
    moves_fall {v} drops = (here v, λ e. omega arith)
    moves_fall {v} (sets {x = x} {v = u}) = let e = set_counted v.scopes v.state x u in (alike v _ (ap (λ t. t.0) e) (ap (λ t. t.1) e), λ e. omega arith)
    moves_fall {v} (writes {x = x} {v = u} {rest = rest}) =
        let e = by_write v x u (in_scopes v.scopes x) in
        wrote_falls (weight_rest (more (part.Does (use_of.Writes x) (Val u)) rest)) v _ rest _ (alike v _ (ap (λ t. t.0) e) (ap (λ t. t.1) e)) (omega arith)
    moves_fall {v} throws = here v
    moves_fall {v} returns = here v
    moves_fall (prints {v = u} {rest = rest} p) = follows_falls (Performs same modules begins m) steps_of SamePromises counts weight_rest (weight_rest (more (part.Does use_of.Prints (Val u)) rest)) Light.heavy p
    moves_fall {v} (chooses {v = u} {ss = ss} {others = others}) = (here v, λ e. let y = branch_lighter (is_true (look_of u)) ss others in omega (arith, y))
    moves_fall {v} awaits = (here v, omega arith)
    moves_fall {v} {w = w} (inner {scope = scope} {scope' = scope'} {r = r} {rest = rest} {move = move} p) =
        let q = within_falls (λ r. more (part.In scope' r) rest) (weight_rest r) (weight_rest (more (part.In scope r) rest)) (suc (weight_rest rest)) (λ r. omega arith) (omega arith) _ _ move (moves_fall p) in
        outside move q
      where
        outside : (move : RewrittenBody (Value N) Limit) → FallsBody (weight_rest (more (part.In scope r) rest)) (record v { scopes = scope ∷ v.scopes }) (within (λ r. more (part.In scope' r) rest) move) (record w { scopes = scope' ∷ w.scopes })
            → FallsBody (weight_rest (more (part.In scope r) rest)) v (within (λ r. more (part.In scope' r) rest) move) w
        outside (On (comes.Goes r)) q = (record { grows = q.0.grows; quiet = q.0.quiet }, q.1)
        outside (On (comes.Leaves u)) q = record { grows = q.grows; quiet = q.quiet }
        outside (On (comes.Calls f vs r)) q = q
        outside (On (comes.Stops why)) q = tt
        outside (Gives u) q = record { grows = q.grows; quiet = q.quiet }
        outside (Waits u r) q = (record { grows = q.0.grows; quiet = q.0.quiet }, q.1)
    moves_fall {v} inner_end = (here v, λ e. omega arith)
    moves_fall {v} {w = w} (tries {r = r} {rest = rest} {x = x} {handler = handler} {move = move} p) = caught_falls x handler rest (weight_rest r) v w move (moves_fall p)
    moves_fall {v} tries_end = (here v, λ e. omega arith)

  -- ---- segments

  abbrev pub weight_callers : List (Active N) → ℕ
  weight_callers [] = 0
  weight_callers (c ∷ cs) = suc (weight_rest c.rest) + weight_callers cs

  pub record CalmState (v w : State N I) : Type 0 where
    pub grows : v.engine.steps ≤ w.engine.steps
    pub quiet : w.engine.steps ≡ v.engine.steps → waiting w ≡ waiting v

  -- how a segment ends, from what has the weight s
  abbrev pub FallsEnd : ℕ → State N I → Ended N → State N I → Type 0
  FallsEnd s v Normal w = CalmState v w
  FallsEnd s v (Thrown u) w = CalmState v w
  FallsEnd s v (Awaiting u rest) w = CalmState v w × (w.engine.steps ≡ v.engine.steps → weight_rest rest < s)
  FallsEnd s v (Stopped why) w = Unit {0}

  calm_both : {u v w : State N I} → CalmState u v → CalmState v w → CalmState u w
  calm_both p q = record {
    grows = let a = p.grows in let b = q.grows in omega (arith, a, b);
    quiet = λ e. q.quiet (let a = p.grows in let b = q.grows in omega (arith, a, b, e)) ∙ p.quiet (let a = p.grows in let b = q.grows in omega (arith, a, b, e));
  }

  end_on : (s t : ℕ) (v mid w : State N I) (how : Ended N) → CalmState v mid → (mid.engine.steps ≡ v.engine.steps → t ≤ s) → FallsEnd t mid how w → FallsEnd s v how w
  end_on s t v mid w Normal p lt q = calm_both p q
  end_on s t v mid w (Thrown u) p lt q = calm_both p q
  end_on s t v mid w (Awaiting u rest) p lt q = (
    calm_both p q.0,
    λ e. let a = p.grows in let b = q.0.grows in
        let x = lt (omega (arith, a, b, e)) in let y = q.1 (omega (arith, a, b, e)) in omega (arith, x, y),
  )
  end_on s t v mid w (Stopped why) p lt q = tt

  state_calm : (m : N) {v w : Inner N I} → C m v w → CalmState v.state w.state
  state_calm m c = record { grows = c.grows; quiet = c.quiet }

  state_risen : {v w : State N I} → v.engine.steps < w.engine.steps → CalmState v w
  state_risen lt = record { grows = omega (arith, lt); quiet = λ e. absurd (omega (arith, lt, e)) }

  -- what follows a rewriting, where what ran had the weight s
  abbrev FallsNext : ℕ → State N I → Option (Next N I) → Type 0
  FallsNext s v None = Unit {0}
  FallsNext s v (Some (Goes m r cs w)) = CalmState v w × (w.engine.steps ≡ v.engine.steps → weight_rest r + weight_callers cs ≤ s)
  FallsNext s v (Some (Over how w)) = FallsEnd s v how w

  by_call : (s : ℕ) (v w : State N I) (b : Bool) (m : N) (r : Rest (Value N)) (cs : List (Active N)) (callee : Option (Active N)) → v.engine.steps < w.engine.steps → FallsNext s v (call_by same modules begins b m r cs w callee)
  by_call s v w true m r cs (Some c) lt = (state_risen lt, λ e. absurd (omega (arith, lt, e)))
  by_call s v w true m r cs None lt = tt
  by_call s v w false m r cs callee lt = (record { grows = omega (arith, lt); quiet = λ e. absurd (omega (arith, lt, e)) }, λ e. absurd (omega (arith, lt, e)))

  next_falls : (m : N) (s : ℕ) (cs : List (Active N)) (v w : Inner N I) (move : RewrittenBody (Value N) Limit) → FallsBody m s v move w → FallsNext (s + weight_callers cs) v.state (next_by same modules begins m cs move w.state)
  next_falls m s cs v w (On (comes.Goes r)) p = (state_calm m p.0, λ e. let y = p.1 e in omega (arith, y))
  next_falls m s [] v w (On (comes.Leaves u)) p = state_calm m p
  next_falls m s (c ∷ cs) v w (On (comes.Leaves u)) p = (state_calm m p, λ e. let y = same_weight (Fails u) refl c.rest in omega (arith, y))
  next_falls m s cs v w (On (comes.Calls f vs r)) p = by_call (s + weight_callers cs) v.state w.state (nat_lt (length cs) MAX_CALL_DEPTH) m r cs (called (modules_of modules w.state) f vs) p
  next_falls m s cs v w (On (comes.Stops why)) p = tt
  next_falls m s [] v w (Gives u) p = tt
  next_falls m s (c ∷ cs) v w (Gives u) p = (state_calm m p, λ e. let y = same_weight (Val u) refl c.rest in omega (arith, y))
  next_falls m s [] v w (Waits u r) p = (state_calm m p.0, λ e. let y = p.1 in omega (arith, y))
  next_falls m s (c ∷ cs) v w (Waits u r) p = tt

  next_is : (s : ℕ) (v : State N I) {o : Option (Next N I)} {n : Next N I} → o ≡ Some n → FallsNext s v o → FallsNext s v (Some n)
  next_is s v e h = subst (λ o. FallsNext s v o) e h

  pub segment_falls : {v : State N I} {m : N} {r : Rest (Value N)} {cs : List (Active N)} {how : Ended N} {w : State N I} → Segment same modules begins v m r cs how w → FallsEnd (weight_rest r + weight_callers cs) v how w
  segment_falls segment.ends = record { grows = omega arith; quiet = λ e. refl }
  segment_falls {v} {w = w} (segment.returns {c = c} {cs = cs} {how = how} p) =
      end_on (0 + weight_callers (c ∷ cs)) (weight_rest (fill_rest (Val Undefined) c.rest) + weight_callers cs) v v w how (record { grows = omega arith; quiet = λ e. refl })
      (λ e. let y = same_weight (Val Undefined) refl c.rest in omega (arith, y)) (segment_falls p)
  segment_falls {v} {m = m} {r = r} {cs = cs} {how = how} {w = w} (segment.goes {mid = mid} {late = late} {n = n} {s = s} {others = others} move d e q) =
      let h = next_is (weight_rest r + weight_callers cs) v e (next_falls m (weight_rest r) cs _ _ move (moves_fall m d)) in
      end_on (weight_rest r + weight_callers cs) (weight_rest s + weight_callers others) v late w how h.0 h.1 (segment_falls q)
  segment_falls {v} {m = m} {r = r} {cs = cs} (segment.over move d e) = next_is (weight_rest r + weight_callers cs) v e (next_falls m (weight_rest r) cs _ _ move (moves_fall m d))
