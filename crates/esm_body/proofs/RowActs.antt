-- What rows ask of the code under way is what the definitions say, in code of any module and in any scopes.
use Rattle.std.proofs.Common.{◌≡◌, ℕ, nat_eq, zero, suc, ◌+◌, ◌≤◌, Bool, true, false, List, [], Option, Some, None, refl, ap, subst, sym, ◌∙◌, arith}
use Rattle.std.specs.Prelude.{⊤, Result, Ok, Err}
use Rattle.esm_base.specs.declared.limits.Limit.{Limit}
use Rattle.esm_base.specs.declared.limits.TheConstants.{MAX_STEPS}
use Rattle.esm_values.specs.Value.{Undefined, Truth, Text, Func, Error, Namespace, Promise}
use Rattle.esm_values.specs.Acts.{Act, AnswerTo}
use Rattle.esm_values.specs.Acts.{Act as act}
use Rattle.esm_values.specs.Code.{CodeValue}
use Rattle.esm_values.specs.Completion.{Completion}
use Rattle.esm_expr_eval.proofs.Lands.{Later, HasAnswer, answers, stopped as told_stop, cost, KnowsAct, KnowsAnswer}
use Rattle.esm_promise.specs.Outer.{Outer}
use Rattle.esm_env.specs.Cells.{Reading}
use Rattle.esm_env.specs.Cells.{Reading as reading}
use Rattle.esm_env.specs.Modules.{Modules}
use Rattle.esm_rewriting.specs.Scopes.{Scope}
use Rattle.esm_rewriting.specs.State.{State, Importing, AnswerWith, take_steps, steps_by, line_by}
use Rattle.esm_rewriting.specs.Acts.{Inner, Performs, BeginsBy, over_scopes, read_answer}
use Rattle.esm_rewriting.specs.Fits.{HoldScopes, Knows}
use Rattle.esm_rewriting.specs.declared.stop.Stop.{Stop}
use Rattle.esm_rewriting.specs.declared.stop.Stop.TheVariants as stops
use Rattle.esm_rewriting.proofs.Grown.{held_scopes}
use Rattle.esm_rewriting.proofs.OneAct.{BeginsOne, acts_one}
use Rattle.esm_rewriting.proofs.SomeAct.{BeginsSome, FitsInner, HaltsIn, view, lives}
use Rattle.esm_row_machine.specs.Outside as said
use Rattle.esm_body.specs.Inner.Functions.{KeepsBody, steps_of}
use Rattle.esm_body.specs.Inner.Log.{TookSteps}
use Rattle.esm_body.specs.Inner.Stack.{scopes_round}
use Rattle.esm_body.specs.Inner.World.{state_in, inner_of, IsSame, CodeIsWhole, HasScopes, Answers, ActsInside}
use Rattle.esm_body.specs.Inner.World.{KnowsAct as KnowsInside}
use Rattle.esm_body.specs.declared.inside.Inside.{Inside}
use Rattle.esm_body.specs.declared.log.Log.{Log}
use Rattle.esm_body.specs.declared.work.Activation.{Activation}
use Rattle.esm_body.proofs.TurnParts.{trees_same, scopes_same}
use Rattle.esm_body.proofs.WorldActs.{Logs, takes_steps}

-- ---- acts that read no scope

abbrev pub IsFree : {V : Type 0} → Act V → Type 0
IsFree (act.Read x) = ⊥
IsFree (act.Member v x) = ⊤
IsFree (act.Display v) = ⊤
IsFree (act.Print vs) = ⊤
IsFree (act.Fault kind message) = ⊤
IsFree (act.Step n) = ⊤
IsFree (act.Import v) = ⊥

abbrev pub over : {S : Type 0} → List (Scope CodeValue) → State ℕ S → Inner ℕ S
over ss s = record { scopes = ss; state = s }

module _ {S : Type 0} (ss : List (Scope CodeValue)) where
  -- the same answer in other scopes
  abbrev reset : {A : Type 0} → AnswerWith A (Inner ℕ S) → AnswerWith A (Inner ℕ S)
  reset t = (t.0, over ss t.1.state)

  reset_over : {A : Type 0} (u : Inner ℕ S) (t : AnswerWith A (State ℕ S)) → reset (over_scopes u t) ≡ over_scopes (over ss u.state) t
  reset_over u (a, s) = refl

  reset_answer : (u : Inner ℕ S) (x : List ℕ) (read : Reading CodeValue) → reset (read_answer u x read) ≡ read_answer (over ss u.state) x read
  reset_answer u x (reading.Value v) = refl
  reset_answer u x reading.Unset = refl
  reset_answer u x reading.Undeclared = refl

module _ {S : Type 0} (modules : S → Modules ℕ) (begins : Importing ℕ S) (m n : ℕ) (ss : List (Scope CodeValue)) where
  free_member : (u v : Inner ℕ S) (of : CodeValue) (x : List ℕ) (r : Result (Completion CodeValue) Limit) → Performs nat_eq modules begins m u (act.Member of x) r v → Performs nat_eq modules begins n (over ss u.state) (act.Member of x) r (over ss v.state)
  free_member u v Undefined x r h = ap (reset ss) h
  free_member u v (Truth b) x r h = ap (reset ss) h
  free_member u v (Text t) x r h = ap (reset ss) h
  free_member u v (Func k i) x r h = ap (reset ss) h
  free_member u v (Error id) x r h = ap (reset ss) h
  free_member u v (Namespace k) x r h = (h.0, h.1, ap (reset ss) h.2 ∙ reset_answer ss u x h.0)
  free_member u v (Promise id) x r h = ap (reset ss) h

  -- such an act is the same act in other scopes, and in code of another module
  pub free : (u v : Inner ℕ S) (a : Act CodeValue) → IsFree a → (r : Result (AnswerTo a) Limit) → Performs nat_eq modules begins m u a r v → Performs nat_eq modules begins n (over ss u.state) a r (over ss v.state)
  free u v (act.Read x) f r h = absurd f
  free u v (act.Member of x) f r h = free_member u v of x r h
  free u v (act.Display of) f r h = (h.0, h.1, ap (reset ss) h.2)
  free u v (act.Print vs) f r h = (h.0, h.1, ap (reset ss) h.2 ∙ reset_over ss u _)
  free u v (act.Fault kind message) f r h = ap (reset ss) h
  free u v (act.Step k) f r h = ap (reset ss) h ∙ reset_over ss u _
  free u v (act.Import of) f r h = absurd f

pub no_less : (n : ℕ) → n ≤ n
no_less n = omega arith

-- ---- steps

unscoped : {S : Type 0} (s late : State ℕ S) (r : Result (Unit {0}) Limit) (t : AnswerWith (Unit {0}) (State ℕ S)) → ◌≡◌ {A = AnswerWith (Unit {0}) (Inner ℕ S)} (r, over [] late) (over_scopes (over [] s) t) → t ≡ (r, late)
unscoped s late r (a, b) e = sym (ap (λ (t : AnswerWith (Unit {0}) (Inner _ _)). (t.0, t.1.state)) e)

-- a step is what the definitions take
pub step_taken : {S : Type 0} (modules : S → Modules ℕ) (begins : Importing ℕ S) (m : ℕ) (s late : State ℕ S) (r : Result (Unit {0}) Limit) → Performs nat_eq modules begins m (over [] s) (act.Step 1) r (over [] late) → take_steps s 1 ≡ (r, late)
step_taken modules begins m s late r h = unscoped s late r (take_steps s 1) h

ok_err : {A : Type 0} {a : A} {why : Limit} → ◌≡◌ {A = Result A Limit} (Ok a) (Err why) → ⊥
ok_err e = cc

err_ok : {A : Type 0} {a : A} {why : Limit} → ◌≡◌ {A = Result A Limit} (Err why) (Ok a) → ⊥
err_ok e = cc

ok_ok : {A : Type 0} {a b : A} → ◌≡◌ {A = Result A Limit} (Ok a) (Ok b) → a ≡ b
ok_ok e = cc

-- what is passed by a limit takes no step
module _ {S : Type 0} (modules : S → Modules ℕ) (begins : Importing ℕ S) (m : ℕ) where
  abbrev steps : Inner ℕ S → ℕ
  steps u = u.state.engine.steps

  step_halts : (b : Bool) (u v : Inner ℕ S) (k : ℕ) (why : Limit) → ◌≡◌ {A = AnswerWith (Unit {0}) (Inner ℕ S)} (Err why, v) (over_scopes u (steps_by b u.state k)) → steps v ≡ steps u
  step_halts true u v k why e = ap (λ (t : AnswerWith (Unit {0}) (Inner ℕ S)). steps t.1) e
  step_halts false u v k why e = absurd (err_ok (ap (λ (t : AnswerWith (Unit {0}) (Inner ℕ S)). t.0) e))

  line_halts : (b : Bool) (u v : Inner ℕ S) (text : List ℕ) (why : Limit) → ◌≡◌ {A = AnswerWith (Unit {0}) (Inner ℕ S)} (Err why, v) (over_scopes u (line_by b u.state text)) → steps v ≡ steps u
  line_halts true u v text why e = ap (λ (t : AnswerWith (Unit {0}) (Inner ℕ S)). steps t.1) e
  line_halts false u v text why e = absurd (err_ok (ap (λ (t : AnswerWith (Unit {0}) (Inner ℕ S)). t.0) e))

-- displaying a value and making an error pass no limit
module _ {S : Type 0} (modules : S → Modules ℕ) (begins : Importing ℕ S) (m : ℕ) where
  abbrev pub NeverHalts : Act CodeValue → Type 0
  NeverHalts (act.Read x) = ⊥
  NeverHalts (act.Member v x) = ⊥
  NeverHalts (act.Display v) = ⊤
  NeverHalts (act.Print vs) = ⊥
  NeverHalts (act.Fault kind message) = ⊤
  NeverHalts (act.Step n) = ⊥
  NeverHalts (act.Import v) = ⊥

  pub never_halts : (a : Act CodeValue) → NeverHalts a → (u v : Inner ℕ S) (why : Limit) → Performs nat_eq modules begins m u a (Err why) v → ⊥
  never_halts (act.Read x) n u v why h = n
  never_halts (act.Member of x) n u v why h = n
  never_halts (act.Display of) n u v why h = err_ok (ap (λ (t : AnswerWith (List ℕ) (Inner ℕ S)). t.0) h.2)
  never_halts (act.Print vs) n u v why h = n
  never_halts (act.Fault kind message) n u v why h = err_ok (ap (λ (t : AnswerWith CodeValue (Inner ℕ S)). t.0) h)
  never_halts (act.Step k) n u v why h = n
  never_halts (act.Import of) n u v why h = n

module _ {I S : Type 0} (seen : I → S) (modules : S → Modules ℕ) (linked : S → ℕ → Bool) (fits : Outer ℕ S → Type 0) (begins : Importing ℕ S) (some : BeginsSome modules linked fits begins) (one : BeginsOne begins) where
  abbrev At : Inside I → State ℕ S
  At w = state_in seen w

  abbrev K : Inside I → CodeValue → Type 0
  K w v = Knows modules linked (seen w.imports.now) v

  abbrev Ready : Inside I → Type 0
  Ready w = CodeIsWhole seen modules linked fits begins w

  abbrev Made : Inside I → Type 0
  Made w = HasScopes seen modules linked fits begins w

  abbrev Kept : Inside I → Inside I → Type 0
  Kept w after = KeepsBody seen modules linked fits begins w after

  abbrev Well : Inside I → Inside I → Type 0
  Well w after = said.Well (state_in seen) modules linked begins (CodeIsWhole seen modules linked fits begins) (KeepsBody seen modules linked fits begins) w after

  abbrev pub Fit : ℕ → Inner ℕ S → Type 0
  Fit m u = FitsInner nat_eq modules linked fits begins some m u

  abbrev pub Does : ℕ → Inner ℕ S → (a : Act CodeValue) → Result (AnswerTo a) Limit → Inner ℕ S → Type 0
  Does m u a r v = Performs nat_eq modules begins m u a r v

  abbrev pub Behind : ℕ → Inner ℕ S → ℕ → Inner ℕ S → Type 0
  Behind m u n v = Later (view nat_eq modules linked fits begins some m) u n v

  abbrev pub Halted : ℕ → Inner ℕ S → Inner ℕ S → Type 0
  Halted m u v = HaltsIn nat_eq modules linked fits begins some m u v

  -- ---- what an act leaves

  ok_by : (m : ℕ) (u v : Inner ℕ S) (a : Act CodeValue) (r : AnswerTo a) → Does m u a (Ok r) v → HasAnswer (view nat_eq modules linked fits begins some m) (Performs nat_eq modules begins m) u a
      → Behind m u (cost a) v × KnowsAnswer (Knows modules linked v.state.outer.imports) a r
  ok_by m u v a r p (answers r' v' h l q) =
      let o = (acts_one nat_eq modules begins one m).one {w = u} {x = v'} {y = v} {a = a} {r = Ok r'} {s = Ok r} h p in (
        subst (Behind m u (cost a)) (sym o.1) l,
        subst (λ (z : Inner ℕ S). KnowsAnswer (Knows modules linked z.state.outer.imports) a r) (sym o.1) (subst (KnowsAnswer (Knows modules linked v'.state.outer.imports) a) (sym (ok_ok o.0)) q),
      )
  ok_by m u v a r p (told_stop why v' h q) =
      absurd (ok_err ((acts_one nat_eq modules begins one m).one {w = u} {x = v'} {y = v} {a = a} {r = Err why} {s = Ok r} h p).0)

  -- where it is answered, the state fits, what was known is known, and so is the answer
  pub behind_ok : (m : ℕ) (u v : Inner ℕ S) (a : Act CodeValue) (r : AnswerTo a) → Fit m u → KnowsAct (Knows modules linked u.state.outer.imports) a → Does m u a (Ok r) v
      → Behind m u (cost a) v × KnowsAnswer (Knows modules linked v.state.outer.imports) a r
  behind_ok m u v a r f k p = ok_by m u v a r p ((lives nat_eq modules linked fits begins some m).answered u a f k)

  halt_by : (m : ℕ) (u v : Inner ℕ S) (a : Act CodeValue) (why : Limit) → Does m u a (Err why) v → HasAnswer (view nat_eq modules linked fits begins some m) (Performs nat_eq modules begins m) u a → Halted m u v
  halt_by m u v a why p (answers r' v' h l q) =
      absurd (err_ok ((acts_one nat_eq modules begins one m).one {w = u} {x = v'} {y = v} {a = a} {r = Ok r'} {s = Err why} h p).0)
  halt_by m u v a why p (told_stop why' v' h q) =
      let o = (acts_one nat_eq modules begins one m).one {w = u} {x = v'} {y = v} {a = a} {r = Err why'} {s = Err why} h p in
      subst (Halted m u) (sym o.1) q

  pub behind_halt : (m : ℕ) (u v : Inner ℕ S) (a : Act CodeValue) (why : Limit) → Fit m u → KnowsAct (Knows modules linked u.state.outer.imports) a → Does m u a (Err why) v → Halted m u v
  behind_halt m u v a why f k p = halt_by m u v a why p ((lives nat_eq modules linked fits begins some m).answered u a f k)

  -- ---- what is kept

  -- the code under way is as it was, what was known is known, and these steps were taken
  kept_by : (w after : Inside I) → Ready w → IsSame w after → Made after → ((v : CodeValue) → K w v → K after v) → steps_of w ≤ steps_of after → (steps_of w ≤ MAX_STEPS → steps_of after ≤ MAX_STEPS) → Kept w after
  kept_by w after ready s made keeps more bound = record {
    now = s.now;
    code = s.code;
    alloc = s.alloc;
    engine = s.engine;
    standing = s.standing;
    errors = s.errors;
    envs = ap (λ e. e.ghost_name) s.envs;
    promises = s.promises;
    imports = s.imports;
    made = λ h. made;
    links = λ m h. keeps (Namespace m) h;
    trees = trees_same seen modules linked fits begins w after ready.made made s.envs;
    scopes = scopes_same seen modules linked fits begins w after s.envs;
    more = more;
    bound = bound;
  }

  bound_by : (n : ℕ) (a b : ℕ) → b ≡ a + n → (1 ≤ n → b ≤ MAX_STEPS) → a ≤ MAX_STEPS → b ≤ MAX_STEPS
  bound_by zero a b e h le = omega (arith, e, le)
  bound_by (suc n) a b e h le = h (omega arith)

  pub well_behind : (m n : ℕ) (w after : Inside I) → Ready w → IsSame w after → Made after → Behind m (over [] (At w)) n (over [] (At after)) → Well w after
  well_behind m n w after ready s made l = record {
    is_ready = record {
      state = l.fits.state;
      scopes = subst (λ (a : Activation). HoldScopes (K after) (scopes_round a.levels.items)) (sym s.now) (held_scopes (K w) (K after) l.keeps (scopes_round w.code.now.levels.items) ready.scopes);
      home = subst (λ (a : Activation). linked (seen after.imports.now) a.at.0 ≡ true) (sym s.now) (l.keeps (Namespace w.code.now.at.0) ready.home);
      made = made;
    };
    keeps = let e = l.took.took.steps in kept_by w after ready s made l.keeps (omega (arith, e)) (bound_by n (steps_of w) (steps_of after) e l.took.took.bound);
  }

  pub kept_behind : (m : ℕ) (w after : Inside I) → Ready w → IsSame w after → Made after → Halted m (over [] (At w)) (over [] (At after)) → steps_of after ≡ steps_of w → Kept w after
  kept_behind m w after ready s made q e = kept_by w after ready s made q.keeps (omega (arith, e)) (λ le. omega (arith, e, le))

  -- the state fits in code of each linked module
  pub fit_at : (m : ℕ) (w : Inside I) → Ready w → linked (seen w.imports.now) m ≡ true → Fit m (over [] (At w))
  fit_at m w ready home = record { state = ready.state; scopes = tt; home = home }

  -- an act in the code under way that reads no scope is one in code of any linked module, in any scopes
  pub record Acted (w : Inside I) (a : Act CodeValue) (r : Result (AnswerTo a) Limit) (after : Inside I) : Type 0 where
    pub same : IsSame w after
    pub made : Made after
    pub does : (m : ℕ) (ss : List (Scope CodeValue)) → Does m (over ss (At w)) a r (over ss (At after))

  pub acted : (w after : Inside I) (a : Act CodeValue) → IsFree a → (r : Result (AnswerTo a) Limit) → Ready w → KnowsInside (K w) a → Answers seen modules linked fits begins w a r after → Acted w a r after
  acted w after a f r ready k h =
      let p = h.1 ready k in
      record { same = h.0; made = p.1; does = λ m ss. free modules begins w.code.now.at.0 m ss (inner_of seen w) (inner_of seen after) a f r p.0 }

  pub acted_well : (w after : Inside I) (a : Act CodeValue) (r : AnswerTo a) → Ready w → KnowsAct (K w) a → Acted w a (Ok r) after → Well w after × KnowsAnswer (K after) a r
  acted_well w after a r ready k h =
      let b = behind_ok w.code.now.at.0 (over [] (At w)) (over [] (At after)) a r (fit_at w.code.now.at.0 w ready ready.home) k (h.does w.code.now.at.0 []) in
      (well_behind w.code.now.at.0 (cost a) w after ready h.same h.made b.0, b.1)

  pub acted_halts : (w after : Inside I) (a : Act CodeValue) (why : Limit) → Ready w → KnowsAct (K w) a → Acted w a (Err why) after → steps_of after ≡ steps_of w → Kept w after
  acted_halts w after a why ready k h e =
      kept_behind w.code.now.at.0 w after ready h.same h.made
      (behind_halt w.code.now.at.0 (over [] (At w)) (over [] (At after)) a why (fit_at w.code.now.at.0 w ready ready.home) k (h.does w.code.now.at.0 [])) e

  -- ---- what is said of each call

  abbrev Steps : Inside I → Result (Unit {0}) Stop → Inside I → Type 0
  Steps w r after = said.Steps (state_in seen) modules linked begins (CodeIsWhole seen modules linked fits begins) (KeepsBody seen modules linked fits begins) w r after

  -- a step allocates nothing
  pub stepped : (w : Inside I) (r : Result (Unit {0}) Stop) (new : Log) → TookSteps w.engine.now.log 1 r new → Steps w r (Logs w new)
  stepped w (Ok u) new h = λ ready.
      let a = acted w (Logs w new) (act.Step 1) tt (Ok tt) ready tt (takes_steps seen modules linked fits begins w 1 (Ok tt) new h) in
      (step_taken modules begins w.code.now.at.0 (At w) (At (Logs w new)) (Ok tt) (a.does w.code.now.at.0 []), (acted_well w (Logs w new) (act.Step 1) tt ready tt a).0)
  stepped w (Err (stops.Limit why)) new h = λ ready.
      let a = acted w (Logs w new) (act.Step 1) tt (Err why) ready tt (takes_steps seen modules linked fits begins w 1 (Err (stops.Limit why)) new h) in (
        step_taken modules begins w.code.now.at.0 (At w) (At (Logs w new)) (Err why) (a.does w.code.now.at.0 []),
        acted_halts w (Logs w new) (act.Step 1) why ready tt a (step_halts modules begins w.code.now.at.0 _ (over [] (At w)) (over [] (At (Logs w new))) 1 why (a.does w.code.now.at.0 [])),
      )
  stepped w (Err stops.Memory) new h = absurd h

  -- a step comes first
  pub step_first : (w mid : Inside I) → Ready w → ActsInside seen modules linked fits begins w (act.Step 1) (Ok tt) mid → Acted w (act.Step 1) (Ok tt) mid × Well w mid
  step_first w mid ready h = let a = acted w mid (act.Step 1) tt (Ok tt) ready tt h in (a, (acted_well w mid (act.Step 1) tt ready tt a).0)

  pub step_stops : (w mid : Inside I) (why : Limit) → Ready w → ActsInside seen modules linked fits begins w (act.Step 1) (Err (stops.Limit why)) mid → Acted w (act.Step 1) (Err why) mid × Kept w mid
  step_stops w mid why ready h =
      let a = acted w mid (act.Step 1) tt (Err why) ready tt h in
      (a, acted_halts w mid (act.Step 1) why ready tt a (step_halts modules begins w.code.now.at.0 _ (over [] (At w)) (over [] (At mid)) 1 why (a.does w.code.now.at.0 [])))

  -- a line that isn't written takes no step
  pub print_stops : (w after : Inside I) (vs : List CodeValue) (why : Limit) → Acted w (act.Print vs) (Err why) after → steps_of after ≡ steps_of w
  print_stops w after vs why a = let d = a.does w.code.now.at.0 [] in line_halts modules begins w.code.now.at.0 _ (over [] (At w)) (over [] (At after)) _ why d.2

  import_halts : (m : ℕ) (u v : Inner ℕ S) (text : Option (List ℕ)) (why : Limit) → BeginsBy nat_eq modules begins m u text (Err why, v) → v.state.engine.steps ≡ u.state.engine.steps
  import_halts m u v None why h = absurd (err_ok (ap (λ (t : AnswerWith CodeValue (Inner ℕ S)). t.0) h))
  import_halts m u v (Some text) why h = ap (λ (t : AnswerWith CodeValue (Inner ℕ S)). t.1.state.engine.steps) h.3

  pub begin_stops : (m : ℕ) (w after : Inside I) (of : CodeValue) (why : Limit) → Does m (over [] (At w)) (act.Import of) (Err why) (over [] (At after)) → steps_of after ≡ steps_of w
  begin_stops m w after of why h = import_halts m (over [] (At w)) (over [] (At after)) _ why h

  pub step_unstepped : (w after : Inside I) (n : ℕ) (why : Limit) → Acted w (act.Step n) (Err why) after → steps_of after ≡ steps_of w
  step_unstepped w after n why a = step_halts modules begins w.code.now.at.0 _ (over [] (At w)) (over [] (At after)) n why (a.does w.code.now.at.0 [])
