-- What the code answers to the calls of expressions is what the definitions answer.
use Rattle.std.proofs.Common.{◌≡◌, ℕ, nat_eq, ◌+◌, ◌<◌, ◌≤◌, Bool, true, false, List, [], ◌∷◌, length, refl, ap, subst, sym, ◌∙◌, arith}
use Rattle.std.proofs.lemmas.Bool.Decides.{nat_tests}
use Rattle.std.specs.Prelude.{Option, Some, None, Result, Ok, Err, nat_lt, string_bytes}
use Rattle.esm_base.specs.declared.limits.Limit.{Limit}
use Rattle.esm_base.specs.declared.limits.Limit.TheVariants.{L3, L5}
use Rattle.esm_base.specs.declared.limits.TheConstants.{MAX_STEPS, MAX_LOG_BYTES}
use Rattle.esm_values.specs.Value as value
use Rattle.esm_values.specs.Code.{CodeValue, value_of}
use Rattle.esm_values.specs.Errors.{Errors, fault, make_error, next_error}
use Rattle.esm_values.specs.Operators.{text_of}
use Rattle.esm_values.specs.Completion.{Completion}
use Rattle.esm_values.specs.Acts.{Act as act}
use Rattle.esm_values.specs.declared.errors.FaultKind.{FaultKind}
use Rattle.esm_values.specs.declared.value.Value.{Value}
use Rattle.esm_expr_eval.specs.Instance.{said}
use Rattle.esm_expr_eval.specs.declared.world.Out.{Out}
use Rattle.esm_expr_eval.specs.declared.world.Out.TheVariants as out
use Rattle.esm_promise.specs.Code.{Numbered}
use Rattle.esm_promise.specs.Promises.{make, next_promise, is_pending_by}
use Rattle.esm_promise.specs.Laws.{MadePending}
use Rattle.esm_promise.specs.Outer.{Outer}
use Rattle.esm_env.specs.Modules.{Modules}
use Rattle.esm_env.specs.Cells.{Cell, Reading}
use Rattle.esm_env.specs.Cells.{Reading as reading}
use Rattle.esm_env.specs.Scopes.{Scopes, scope_in, import_of, read_in, read_or}
use Rattle.esm_env.specs.Faithful.{HasScope, AreScopesOf}
use Rattle.esm_env.specs.Laws.{ReadsRight}
use Rattle.esm_env.specs.declared.scope.ModuleScope.{ModuleScope}
use Rattle.esm_rewriting.specs.Scopes.{Scope, in_scopes}
use Rattle.esm_rewriting.specs.State.{State, Importing, take_steps, steps_by, add_line, line_by}
use Rattle.esm_rewriting.specs.Acts.{Inner, Performs, Displays, DisplaysAll, ReadsBy, BeginsBy, read_answer, over_scopes}
use Rattle.esm_rewriting.specs.Fits.{IsKnown, AreLinked}
use Rattle.esm_body.specs.Importers.{Begun, MayBegin, ImportsAreLawful, outer_with}
use Rattle.esm_body.specs.View.{engine_of, state_of}
use Rattle.esm_body.specs.Inner.Log.{TookSteps, AddedLine}
use Rattle.esm_body.specs.Inner.Names.{reading_in, said_out, told_as, Tells}
use Rattle.esm_body.specs.Inner.Displayed.{bare_state, MemberTold, RefusesTold, BeginsTold, BeginsAt}
use Rattle.esm_body.specs.Inner.World.{Answers, ActsInside}
use Rattle.esm_body.specs.declared.engine.Engine.{Engine}
use Rattle.esm_body.specs.declared.log.Log.{Log}
use Rattle.esm_rewriting.specs.declared.stop.Stop.{Stop}
use Rattle.esm_rewriting.specs.declared.stop.Stop.TheVariants as stops
use Rattle.esm_body.specs.declared.inside.Inside.{Inside}

-- ---- tests

not_less : (a b : ℕ) → b ≤ a → nat_lt a b ≡ false
not_less a b h = by (nat_lt a b) refl
  where
    by : (t : Bool) → nat_lt a b ≡ t → t ≡ false
    by true e = absurd (grind (arith, nat_tests))
    by false e = refl

less : (a b : ℕ) → a < b → nat_lt a b ≡ true
less a b h = by (nat_lt a b) refl
  where
    by : (t : Bool) → nat_lt a b ≡ t → t ≡ true
    by true e = refl
    by false e = absurd (grind (arith, nat_tests))

-- ---- display texts

-- a display text depends on modules and errors alone
pub shows_there : {I : Type 0} (modules : I → Modules ℕ) (w : State ℕ I) (v : CodeValue) (text : List ℕ) → Displays (λ g. g) (bare_state (modules w.outer.imports) w.outer.errors) v text → Displays modules w v text
shows_there modules w value.Undefined text h = h
shows_there modules w (value.Truth b) text h = h
shows_there modules w (value.Text t) text h = h
shows_there modules w (value.Func m i) text h = h
shows_there modules w (value.Error id) text h = h
shows_there modules w (value.Namespace m) text h = h
shows_there modules w (value.Promise id) text h = h

-- in each state with these errors and modules
pub displays_there : {I : Type 0} (modules : I → Modules ℕ) (i : I) (errors : Errors) (v : CodeValue) (text : List ℕ) → Displays (λ g. g) (bare_state (modules i) errors) v text
    → (w : State ℕ I) → w.outer.errors ≡ errors → w.outer.imports ≡ i → Displays modules w v text
displays_there {I = I} modules i errors v text h w e k =
    shows_there modules w v text (subst (λ (es : Errors). Displays (λ g. g) (bare_state (modules w.outer.imports) es) v text) (sym e)
    (subst (λ (j : I). Displays (λ g. g) (bare_state (modules j) errors) v text) (sym k) h))

pub show_all_there : {I : Type 0} (modules : I → Modules ℕ) (w : State ℕ I) (vs : List CodeValue) (texts : List (List ℕ))
    → DisplaysAll (λ g. g) (bare_state (modules w.outer.imports) w.outer.errors) vs texts → DisplaysAll modules w vs texts
show_all_there modules w [] texts h = h
show_all_there modules w (v ∷ vs) texts (t, ts, a, b, e) = (t, ts, shows_there modules w v t a, show_all_there modules w vs ts b, e)

module _ {I : Type 0} (modules : I → Modules ℕ) (linked : I → ℕ → Bool) (fits : Outer ℕ I → Type 0) (begins : Importing ℕ I) (ss : List (Scope CodeValue)) (e : Scopes) where
  -- over this engine, these promises, errors and modules
  abbrev At : Engine → Numbered → Errors → I → Inner ℕ I
  At engine ps es i = record { scopes = ss; state = state_of engine e ps es i }

  abbrev Scoped : I → Type 0
  Scoped i = AreScopesOf (modules i) (linked i) e

  module _ (engine : Engine) (ps : Numbered) (i : I) where
    -- ---- names and members

    told_answer : (x : List ℕ) (r : Reading CodeValue) (c : Completion CodeValue) (es new : Errors) → c ≡ (told_as x r es).0 → new ≡ (told_as x r es).1
        → (Ok c, At engine ps new i) ≡ read_answer (At engine ps es i) x r
    told_answer x (reading.Value v) c es new p q = λ j. (Ok (p j), At engine ps (q j) i)
    told_answer x reading.Unset c es new p q = λ j. (Ok (p j), At engine ps (q j) i)
    told_answer x reading.Undeclared c es new p q = λ j. (Ok (p j), At engine ps (q j) i)

    has_scope : (m : ℕ) (x : List ℕ) → Scoped i → linked i m ≡ true → (s : ModuleScope) → scope_in e m ≡ Some s → HasScope e (import_of (scope_in e m) x)
    has_scope m x a l s k = subst (λ o. HasScope e (import_of o x)) (sym k) (a.bound m s l k x)

    reads_by : (es : Errors) (m : ℕ) (x : List ℕ) → ReadsRight → Scoped i → linked i m ≡ true → (o : Option (Cell CodeValue))
        → ReadsBy nat_eq modules begins m (state_of engine e ps es i) x o (read_or o (read_in e m x))
    reads_by es m x right a l (Some c) = refl
    reads_by es m x right a l None = let s = a.made m l in right (modules i) e m s.0 x a.faithful s.1 (has_scope m x a l s.0 s.1)

    pub read_performs : (es new : Errors) (m : ℕ) (x : List ℕ) (told : Out) → ReadsRight → Scoped i → linked i m ≡ true → Tells x (reading_in ss e m x) es (Ok told) new
        → Performs nat_eq modules begins m (At engine ps es i) (act.Read x) (Ok (said_out told)) (At engine ps new i)
    read_performs es new m x told right a l h =
        (reading_in ss e m x, reads_by es m x right a l (in_scopes ss x), told_answer x (reading_in ss e m x) (said_out told) es new h.0 h.1)

    pub member_performs : (es new : Errors) (m : ℕ) (v : CodeValue) (x : List ℕ) (told : Out) → Scoped i → AreLinked (modules i) (linked i) → IsKnown (modules i) (linked i) v
        → MemberTold (modules i) (linked i) e es v x (Ok told) new
        → Performs nat_eq modules begins m (At engine ps es i) (act.Member v x) (Ok (said_out told)) (At engine ps new i)
    member_performs es new m value.Undefined x told a l k h = λ j. (Ok (h.0 j), At engine ps (h.1 j) i)
    member_performs es new m (value.Truth b) x told a l k h = λ j. (Ok (h.0 j), At engine ps (h.1 j) i)
    member_performs es new m (value.Text t) x told a l k h = λ j. (Ok (h.0 j), At engine ps (h.1 j) i)
    member_performs es new m (value.Func n index) x told a l k h = λ j. (Ok (h.0 j), At engine ps (h.1 j) i)
    member_performs es new m (value.Error id) x told a l k h = λ j. (Ok (h.0 j), At engine ps (h.1 j) i)
    member_performs es new m (value.Namespace n) x told a l k h = let r = h a l k in (r.0, r.1, told_answer x r.0 (said_out told) es new r.2 r.3)
    member_performs es new m (value.Promise id) x told a l k h = λ j. (Ok (h.0 j), At engine ps (h.1 j) i)

    -- ---- errors

    pub fault_performs : (es new : Errors) (m : ℕ) (kind : FaultKind) (message : List ℕ) (id : ℕ) → id ≡ next_error es → new ≡ make_error es (fault kind message)
        → Performs nat_eq modules begins m (At engine ps es i) (act.Fault kind message) (Ok (value.Error id)) (At engine ps new i)
    fault_performs es new m kind message id p q = λ j. (Ok (value.Error (p j)), At engine ps (q j) i)

    -- ---- import() of what has no text

    pub refuse_performs : (es new : Errors) (late : Numbered) (m : ℕ) (v : CodeValue) (p : Value) → text_of es v ≡ None → RefusesTold ps es (Ok p) late new
        → Performs nat_eq modules begins m (At engine ps es i) (act.Import v) (Ok (value_of p)) (At engine late new i)
    refuse_performs es new late m v p none h =
        subst (λ t. BeginsBy nat_eq modules begins m (At engine ps es i) t (Ok (value_of p), At engine late new i)) (sym none) (λ j. (Ok (h.0 j), At engine (h.1 j) (h.2 j) i))

  -- ---- the log

  abbrev Logged : Engine → Log → Engine
  Logged engine log = record engine { log = log }

  module _ (engine : Engine) (ps : Numbered) (es : Errors) (i : I) where
    pub line_ok : (text : List ℕ) (new : Log) → AddedLine engine.log text (Ok tt) new
        → (Ok tt, At (Logged engine new) ps es i) ≡ over_scopes (At engine ps es i) (add_line (state_of engine e ps es i) text)
    line_ok text new h =
        let test = not_less MAX_LOG_BYTES (length (string_bytes engine.log.text) + length text + 1) h.0 in
        let now : Engine → List ℕ → ℕ → Option Limit → Inner ℕ I = λ engine log steps stopped.
        record { scopes = ss; state = record (state_of engine e ps es i) { engine = record (engine_of engine) { log = log; steps = steps; stopped = stopped } } } in
        (λ j. (Ok tt, now engine (h.3 j) (h.1 j) (h.2 j))) ∙ ap (λ b. over_scopes (At engine ps es i) (line_by b (state_of engine e ps es i) text)) (sym test)

    pub line_stops : (text : List ℕ) (new : Log) → AddedLine engine.log text (Err (stops.Limit L5)) new
        → (Err L5, At (Logged engine new) ps es i) ≡ over_scopes (At engine ps es i) (add_line (state_of engine e ps es i) text)
    line_stops text new h =
        let test = less MAX_LOG_BYTES (length (string_bytes engine.log.text) + length text + 1) h.0 in
        ap (λ (l : Log). (Err L5, At (Logged engine l) ps es i)) h.1 ∙ ap (λ b. over_scopes (At engine ps es i) (line_by b (state_of engine e ps es i) text)) (sym test)

    pub step_ok : (n : ℕ) (new : Log) → TookSteps engine.log n (Ok tt) new → (Ok tt, At (Logged engine new) ps es i) ≡ over_scopes (At engine ps es i) (take_steps (state_of engine e ps es i) n)
    step_ok n new h =
        let test = not_less MAX_STEPS (engine.log.steps + n) h.0 in
        ap (λ (l : Log). (Ok tt, At (Logged engine l) ps es i)) h.1 ∙ ap (λ b. over_scopes (At engine ps es i) (steps_by b (state_of engine e ps es i) n)) (sym test)

    pub step_stops : (n : ℕ) (new : Log) → TookSteps engine.log n (Err (stops.Limit L3)) new → (Err L3, At (Logged engine new) ps es i) ≡ over_scopes (At engine ps es i) (take_steps (state_of engine e ps es i) n)
    step_stops n new h =
        let test = less MAX_STEPS (engine.log.steps + n) h.0 in
        ap (λ (l : Log). (Err L3, At (Logged engine l) ps es i)) h.1 ∙ ap (λ b. over_scopes (At engine ps es i) (steps_by b (state_of engine e ps es i) n)) (sym test)

  -- ---- import() of a specifier

  module _ (engine : Engine) (ps : Numbered) (es : Errors) (i : I) (lawful : ImportsAreLawful modules linked fits begins) (pending : MadePending) (whole : fits (outer_with ps es i)) where
    abbrev Made : Outer ℕ I
    Made = outer_with (make ps []) es i

    may : (m : ℕ) → linked i m ≡ true → MayBegin modules linked fits begins Made m (next_promise ps)
    may m l = (lawful.makes (outer_with ps es i) whole, l, ap is_pending_by (pending.made ps []))

    scoped : (m : ℕ) (text : List ℕ) (r : Result (Unit {0}) Limit) (after : Outer ℕ I) → Scoped i → begins Made m text (next_promise ps) r after → Scoped after.imports
    scoped m text r after a b =
        let s = lawful.some Made m text (next_promise ps) (lawful.makes (outer_with ps es i) whole) in
        let one = lawful.one Made s.1.0 after m text (next_promise ps) s.0 r s.1.1.0 b in
        subst (λ (o : Outer ℕ I). Scoped o.imports) (sym one.1) (s.1.1.1.scopes e a)

    pub begin_performs : (late : Numbered) (new : Errors) (k : I) (m : ℕ) (v : CodeValue) (text : List ℕ) (p : Value) → text_of es v ≡ Some text → linked i m ≡ true → Scoped i
        → BeginsTold modules linked fits begins (outer_with ps es i) m text (Ok p) (outer_with late new k)
        → Performs nat_eq modules begins m (At engine ps es i) (act.Import v) (Ok (value_of p)) (At engine late new k) × Scoped k
    begin_performs late new k m v text p some l a h =
        let b = h.1 (may m l) in (
          (subst (λ t. BeginsBy nat_eq modules begins m (At engine ps es i) t (Ok (value_of p), At engine late new k)) (sym some)
              (Ok tt, outer_with late new k, b, λ j. (Ok (h.0 j), At engine late new k))),
          scoped m text (Ok tt) (outer_with late new k) a b,
        )

    pub begin_stops : (late : Numbered) (new : Errors) (k : I) (m : ℕ) (v : CodeValue) (text : List ℕ) (limit : Limit) → text_of es v ≡ Some text → linked i m ≡ true → Scoped i
        → BeginsTold modules linked fits begins (outer_with ps es i) m text (Err (stops.Limit limit)) (outer_with late new k)
        → Performs nat_eq modules begins m (At engine ps es i) (act.Import v) (Err limit) (At engine late new k) × Scoped k
    begin_stops late new k m v text limit some l a h =
        let b = h (may m l) in (
          (subst (λ t. BeginsBy nat_eq modules begins m (At engine ps es i) t (Err limit, At engine late new k)) (sym some)
              (Err limit, outer_with late new k, b, refl)),
          scoped m text (Err limit) (outer_with late new k) a b,
        )

-- ---- a promise, and what begins over it

module _ {I : Type 0} (modules : I → Modules ℕ) (linked : I → ℕ → Bool) (fits : Outer ℕ I → Type 0) (begins : Importing ℕ I) (ps made : Numbered) (es : Errors) (i : I) (m : ℕ) (text : List ℕ) (p : ℕ) where
  pub begun : (r : Result (Unit {0}) Limit) (after : Outer ℕ I) → made ≡ make ps [] → p ≡ next_promise ps
      → (MayBegin modules linked fits begins (outer_with made es i) m p → begins (outer_with made es i) m text p r after)
      → BeginsAt modules linked fits begins (outer_with (make ps []) es i) m text (next_promise ps) r after
  begun r after e n h =
      subst (λ q. BeginsAt modules linked fits begins (outer_with (make ps []) es i) m text q r after) n
      (subst (λ late. BeginsAt modules linked fits begins (outer_with late es i) m text p r after) e h)

  pub begun_stops : (stop : Stop) (after : Outer ℕ I) → made ≡ make ps [] → p ≡ next_promise ps
      → (MayBegin modules linked fits begins (outer_with made es i) m p → Begun begins (outer_with made es i) m text p (Err stop) after)
      → BeginsTold modules linked fits begins (outer_with ps es i) m text (Err stop) after
  begun_stops (stops.Limit limit) after e n h = begun (Err limit) after e n h
  begun_stops stops.Memory after e n h = tt

-- ---- answers of the trait

module _ {I S : Type 0} (seen : I → S) (modules : S → Modules ℕ) (linked : S → ℕ → Bool) (fits : Outer ℕ S → Type 0) (begins : Importing ℕ S) where
  pub read_acts : (w after : Inside I) (x : List ℕ) (told : Out) → Answers seen modules linked fits begins w (act.Read x) (Ok (said_out told)) after
      → ActsInside seen modules linked fits begins w (act.Read x) (said (Ok told)) after
  read_acts w after x (out.Value v) h = h
  read_acts w after x (out.Thrown v) h = h

  pub member_acts : (w after : Inside I) (v : CodeValue) (x : List ℕ) (told : Out) → Answers seen modules linked fits begins w (act.Member v x) (Ok (said_out told)) after
      → ActsInside seen modules linked fits begins w (act.Member v x) (said (Ok told)) after
  member_acts w after v x (out.Value u) h = h
  member_acts w after v x (out.Thrown u) h = h
