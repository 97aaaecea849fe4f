-- A segment has an outcome, in a state that fits: each rewriting counts a step, of which there are no more than may be, or makes
-- smaller what remains of what runs and of its callers.
use Rattle.std.proofs.Common.{◌≡◌, ℕ, zero, suc, ◌+◌, ◌<◌, ◌≤◌, Bool, true, false, List, [], ◌∷◌, ◌++◌, Some, refl, ap, subst, arith, length}
use Rattle.std.specs.Prelude.{codes, ⊤, nat_lt}
use Rattle.esm_base.specs.declared.limits.Limit.{Limit}
use Rattle.esm_base.specs.declared.limits.TheConstants.{MAX_STEPS, MAX_CALL_DEPTH}
use Rattle.esm_values.specs.Value.{Value, Undefined, Truth, Text, Func, Error, Namespace, Promise}
use Rattle.esm_values.specs.Plans.{Rewritten as comes}
use Rattle.esm_values.specs.Errors.{make_error, fault}
use Rattle.esm_values.specs.declared.errors.FaultKind.TheVariants as kinds
use Rattle.esm_values.specs.Operators.{values, look_of}
use Rattle.esm_values.specs.Operators.{Look as look}
use Rattle.esm_expr_eval.specs.Terms.{Term}
use Rattle.esm_expr_eval.specs.Terms.Term.{Val, Fails}
use Rattle.esm_expr_eval.specs.Ready.{Holds}
use Rattle.esm_expr_eval.proofs.Lands.{AllKnown}
use Rattle.esm_expr_eval.specs.Sizes.{size}
use Rattle.esm_env.specs.Declarations.{FunctionCode}
use Rattle.esm_promise.specs.Outer.{Outer}
use Rattle.esm_env.specs.Modules.{Modules, function_of}
use Rattle.esm_rewriting.specs.Scopes.{Scope, call_scope, parameters}
use Rattle.esm_rewriting.specs.Rest.{Rest, end, more, whole, fill_rest}
use Rattle.esm_rewriting.specs.Rest.Part.{In}
use Rattle.esm_rewriting.specs.State.{State, Importing, new_error}
use Rattle.esm_rewriting.specs.BodyRewriting.{RewrittenBody, On, Gives, Waits, RewritesBody}
use Rattle.esm_rewriting.specs.Segment.{Active, active, Ended, Normal, Thrown, Awaiting, Stopped, Goes, Segment, RewritesOutermost, next_by, called, called_by, call_by, too_deep}
use Rattle.esm_rewriting.specs.Segment.Segment.{ends, returns, goes, over}
use Rattle.esm_rewriting.specs.Fits.{Kind, of_function, FitsStmts, HoldsScope, HoldsRest, FitsState, Knows, kind_by, FitCallers, FitsRun, FitsAfter, FitsEnd}
use Rattle.esm_rewriting.proofs.Grown.{held_rest, filled_rest, same_rest, size_rest, new_whole, new_scope_of}
use Rattle.esm_rewriting.proofs.SomeAct.{BeginsSome, Took}
use Rattle.esm_rewriting.proofs.SomeMove.{Left, Fits', Moves, moves, shape, some_move}

abbrev pub weight : {N : Type 0} → List (Active N) → ℕ
weight [] = 0
weight (c ∷ cs) = suc (size_rest c.rest) + weight cs

abbrev pub measure : {N : Type 0} → Rest (Value N) → List (Active N) → ℕ
measure r cs = suc (size_rest r) + weight cs

module _ {N I : Type 0} (same : N → N → Bool) (modules : I → Modules N) (linked : I → N → Bool) (Whole : Outer N I → Type 0) (begins : Importing N I) (some : BeginsSome modules linked Whole begins) (awaits : Bool) where
  abbrev W : Type 0
  W = State N I

  abbrev V : Type 0
  V = Value N

  abbrev K : W → V → Type 0
  K w v = Knows modules linked w.outer.imports v

  abbrev Run : W → N → Rest V → List (Active N) → Type 0
  Run w m r cs = FitsRun modules linked Whole w m awaits r cs

  abbrev pub Result : W → N → Rest V → List (Active N) → Type 0
  Result w m r cs = (how : Ended N) × ((after : W) × (Segment same modules begins w m r cs how after × FitsEnd modules linked Whole w awaits how after))

  abbrev Keeps : W → W → Type 0
  Keeps w after = (v : V) → K w v → K after v

  -- ---- what is kept

  kept_callers : (w after : W) → Keeps w after → (cs : List (Active N)) → FitCallers modules linked w.outer.imports awaits cs → FitCallers modules linked after.outer.imports awaits cs
  kept_callers w after k [] h = tt
  kept_callers w after k (c ∷ cs) h = (k (Namespace c.at) h.0, held_rest (K w) (K after) k ⊤ (kind_by modules linked awaits cs) c.rest h.1, kept_callers w after k cs h.2)

  kept_end : (w mid after : W) (how : Ended N) → Keeps w mid → FitsEnd modules linked Whole mid awaits how after → FitsEnd modules linked Whole w awaits how after
  kept_end w mid after Normal k h = record { fits = h.fits; keeps = λ v q. h.keeps v (k v q) }
  kept_end w mid after (Thrown v) k h = (record { fits = h.0.fits; keeps = λ v q. h.0.keeps v (k v q) }, h.1)
  kept_end w mid after (Awaiting v rest) k h = (record { fits = h.0.fits; keeps = λ v q. h.0.keeps v (k v q) }, h.1, h.2, h.3)
  kept_end w mid after (Stopped why) k h = record { fits = h.fits; keeps = λ v q. h.keeps v (k v q) }

  -- ---- going on

  -- behind a step, with k steps left
  abbrev Lower : ℕ → Type 0
  Lower k = (w : W) (m : N) (r : Rest V) (cs : List (Active N)) → w.engine.steps ≤ MAX_STEPS → MAX_STEPS + 1 < w.engine.steps + k → Run w m r cs → Result w m r cs

  abbrev Again : ℕ → ℕ → Type 0
  Again k n = (w : W) (m : N) (r : Rest V) (cs : List (Active N)) → measure r cs < n → MAX_STEPS < w.engine.steps + k → Run w m r cs → Result w m r cs

  module _ (k n : ℕ) (lower : Lower k) (again : Again k n) where
    proceed : (steps : ℕ) (w mid : W) (m : N) (r : Rest V) (cs : List (Active N)) → Took w steps mid → MAX_STEPS < w.engine.steps + k → (steps ≡ 0 → measure r cs < n) → Run mid m r cs → Result mid m r cs
    proceed zero w mid m r cs t lt less f = again mid m r cs (less refl) (let e = t.steps in omega (arith, e, lt)) f
    proceed (suc s) w mid m r cs t lt less f = lower mid m r cs (t.bound (omega arith)) (let e = t.steps in omega (arith, e, lt)) f

    module _ (w : W) (m : N) (r : Rest V) (cs : List (Active N)) (f : Run w m r cs) (enough : MAX_STEPS < w.engine.steps + k) where
      K' : Kind
      K' = kind_by modules linked awaits cs

      on : (move : RewrittenBody V Limit) (mid late : W) (m' : N) (r' : Rest V) (cs' : List (Active N)) → RewritesOutermost same modules begins m w r move mid → next_by same modules begins m cs move mid ≡ Some (Goes m' r' cs' late) → Keeps w late
          → Result late m' r' cs' → Result w m r cs
      on move mid late m' r' cs' d e keeps x = (x.0, (x.1.0, (goes move d e x.1.1.0, kept_end w late x.1.0 x.0 keeps x.1.1.1)))

      abbrev Left' : ℕ → W → Type 0
      Left' steps mid = Left same modules linked Whole begins some m (record { scopes = []; state = w }) steps (record { scopes = []; state = mid })

      -- the caller goes on
      back : (move : RewrittenBody V Limit) (given : Term V) (steps : ℕ) (mid : W) (c : Active N) (cs' : List (Active N)) → cs ≡ c ∷ cs' → RewritesOutermost same modules begins m w r move mid
          → next_by same modules begins m cs move mid ≡ Some (Goes c.at (fill_rest given c.rest) cs' mid) → Holds (K mid) ⊥ given → size given ≡ 1 → measure r cs < suc n → Left' steps mid → Result w m r cs
      back move given steps mid c cs' e d next h one lt l =
          let before = kept_callers w mid l.keeps (c ∷ cs') (subst (λ cs. FitCallers modules linked w.outer.imports awaits cs) e f.before) in
          let lighter : measure (fill_rest given c.rest) cs' < n = (let s = same_rest given one c.rest in let q : weight cs ≡ weight (c ∷ cs') = ap weight e in omega (arith, s, lt, q)) in
          on move mid mid c.at (fill_rest given c.rest) cs' d next l.keeps
          (proceed steps w mid c.at (fill_rest given c.rest) cs' l.took enough (λ z. lighter) (record {
            state = l.fits.state;
            home = before.0;
            holds = filled_rest (K mid) given h (kind_by modules linked awaits cs') c.rest before.1;
            before = before.2;
          }))

      -- ---- calls

      known_parameters : (P : V → Type 0) → P Undefined → (xs : List (List ℕ)) (vs : List V) → AllKnown P vs → HoldsScope P (parameters Undefined xs vs)
      known_parameters P u [] vs h = tt
      known_parameters P u (x ∷ xs) [] h = (u, known_parameters P u xs [] tt)
      known_parameters P u (x ∷ xs) (v ∷ vs) h = (h.0, known_parameters P u xs vs h.1)

      known_both : (P : V → Type 0) (s t : Scope V) → HoldsScope P s → HoldsScope P t → HoldsScope P (s ++ t)
      known_both P [] t h g = g
      known_both P (x ∷ s) t h g = (h.0, known_both P s t h.1 g)

      function_fits : (mid : W) (g : N) (index : ℕ) (code : FunctionCode) → FitsState modules linked Whole mid → linked mid.outer.imports g ≡ true → function_of (modules mid.outer.imports) g index ≡ Some code → FitsStmts of_function code.body
      function_fits mid g index code s l e = record { returns = λ q. absurd cc; awaits = λ q. (some.readable mid.outer s.whole).functions g index code l e }

      callee : (mid : W) (g : N) (index : ℕ) (vs : List V) (code : FunctionCode) → function_of (modules mid.outer.imports) g index ≡ Some code
          → called (modules mid.outer.imports) (Func g index) vs ≡ Some (active g (more (In (call_scope Undefined code vs) (whole code.body)) end))
      callee mid g index vs code e = ap (called_by g vs) e

      calls : (mid : W) (steps : ℕ) (g : N) (index : ℕ) (vs : List V) (s : Rest V) → RewritesOutermost same modules begins m w r (On (comes.Calls (Func g index) vs s)) mid → Left' (suc steps) mid → linked mid.outer.imports g ≡ true
          → (code : FunctionCode) → function_of (modules mid.outer.imports) g index ≡ Some code → AllKnown (K mid) vs → HoldsRest (K mid) ⊤ K' s → (b : Bool) → nat_lt (length cs) MAX_CALL_DEPTH ≡ b → Result w m r cs
      unfolding K'
      calls mid steps g index vs s d l home code e kvs hs true b =
          let rest = more (In (call_scope Undefined code vs) (whole code.body)) end in
          on (On (comes.Calls (Func g index) vs s)) mid mid g rest (active m s ∷ cs) d
          ((λ i. call_by same modules begins (b i) m s cs mid (callee mid g index vs code e i))) l.keeps
          (proceed (suc steps) w mid g rest (active m s ∷ cs) l.took enough (λ z. absurd (omega (arith, z))) (record {
            state = l.fits.state;
            home = home;
            holds = (
              (
                known_both (K mid) _ _ (known_parameters (K mid) tt code.parameters vs kvs) (new_scope_of (K mid) (values same) tt (λ b. tt) (λ t. tt) of_function code.body),
                new_whole (K mid) (values same) tt (λ b. tt) (λ t. tt) of_function code.body (function_fits mid g index code l.fits.state home e),
              ),
              tt,
            );
            before = (l.fits.home, hs, kept_callers w mid l.keeps cs f.before);
          }))
      calls mid steps g index vs s d l home code e kvs hs false b =
          let late = too_deep same modules begins mid in
          let given = Fails (new_error mid) in
          on (On (comes.Calls (Func g index) vs s)) mid late m (fill_rest given s) cs d
          (λ i. call_by same modules begins (b i) m s cs mid (called (modules mid.outer.imports) (Func g index) vs)) l.keeps
          (proceed (suc steps) w late m (fill_rest given s) cs (record { steps = l.took.steps; bound = l.took.bound }) enough (λ z. absurd (omega (arith, z))) (record {
            state = record { whole = some.errors mid.outer (make_error mid.outer.errors (fault kinds.RangeError (codes "call depth"))) l.fits.state.whole; cells = l.fits.state.cells; standing = l.fits.state.standing };
            home = l.fits.home;
            holds = filled_rest (K mid) given tt (kind_by modules linked awaits cs) s hs;
            before = kept_callers w mid l.keeps cs f.before;
          }))

      calls_known : (mid : W) (steps : ℕ) (v : V) (vs : List V) (s : Rest V) → RewritesOutermost same modules begins m w r (On (comes.Calls v vs s)) mid → Left' (suc steps) mid → look_of v ≡ look.Func → K mid v → AllKnown (K mid) vs
          → HoldsRest (K mid) ⊤ K' s → Result w m r cs
      calls_known mid steps Undefined vs s d l e kv kvs hs = absurd cc
      calls_known mid steps (Truth b) vs s d l e kv kvs hs = absurd cc
      calls_known mid steps (Text t) vs s d l e kv kvs hs = absurd cc
      calls_known mid steps (Func g index) vs s d l e kv kvs hs = calls mid steps g index vs s d l kv.0 kv.1.0 kv.1.1 kvs hs _ refl
      calls_known mid steps (Error id) vs s d l e kv kvs hs = absurd cc
      calls_known mid steps (Namespace g) vs s d l e kv kvs hs = absurd cc
      calls_known mid steps (Promise id) vs s d l e kv kvs hs = absurd cc

    -- ---- each move

    stays : (w mid : W) (m : N) (steps : ℕ) → Left same modules linked Whole begins some m (record { scopes = []; state = w }) steps (record { scopes = []; state = mid }) → FitsAfter modules linked Whole w mid
    stays w mid m steps l = record { fits = l.fits.state; keeps = l.keeps }

    goes_on : (w : W) (m : N) (p : Rest V) (cs : List (Active N)) → Run w m p cs → MAX_STEPS < w.engine.steps + k → measure p cs < suc n → (move : RewrittenBody V Limit) (mid : W) → RewritesOutermost same modules begins m w p move mid
        → Fits' same modules linked Whole begins some m (kind_by modules linked awaits cs) (record { scopes = []; state = w }) (size_rest p) move (record { scopes = []; state = mid }) → Result w m p cs
    unfolding K'
    goes_on w m p cs f enough lt (On (comes.Goes s)) mid d (steps, (l, (h, less))) =
        on w m p cs f enough (On (comes.Goes s)) mid mid m s cs d refl l.keeps
        (proceed steps w mid m s cs l.took enough (λ z. let x = less z in omega (arith, x, lt)) (record { state = l.fits.state; home = l.fits.home; holds = h; before = kept_callers w mid l.keeps cs f.before }))
    goes_on w m p [] f enough lt (On (comes.Leaves v)) mid d (steps, (l, h)) = (Thrown v, (mid, (over (On (comes.Leaves v)) d refl, (stays w mid m steps l, h))))
    goes_on w m p (c ∷ cs) f enough lt (On (comes.Leaves v)) mid d (steps, (l, h)) = back w m p (c ∷ cs) f enough (On (comes.Leaves v)) (Fails v) steps mid c cs refl d refl h refl lt l
    goes_on w m p cs f enough lt (On (comes.Calls v vs s)) mid d (steps, (l, (e, (kv, (kvs, h))))) = calls_known w m p cs f enough mid steps v vs s d l e kv kvs h
    goes_on w m p cs f enough lt (On (comes.Stops why)) mid d q = (Stopped why, (mid, (over (On (comes.Stops why)) d refl, record { fits = q.fits.state; keeps = q.keeps })))
    goes_on w m p [] f enough lt (Gives v) mid d (a, q) = absurd cc
    goes_on w m p (c ∷ cs) f enough lt (Gives v) mid d (a, (steps, (l, h))) = back w m p (c ∷ cs) f enough (Gives v) (Val v) steps mid c cs refl d refl h refl lt l
    goes_on w m p [] f enough lt (Waits v s) mid d (a, (steps, (l, (kv, h)))) = (Awaiting v s, (mid, (over (Waits v s) d refl, (stays w mid m steps l, a, kv, h))))
    goes_on w m p (c ∷ cs) f enough lt (Waits v s) mid d (a, q) = absurd cc

    goes_shaped : (w : W) (m : N) (p : Rest V) (cs : List (Active N)) → Run w m p cs → MAX_STEPS < w.engine.steps + k → measure p cs < suc n → (move : RewrittenBody V Limit) (ss : List (Scope V)) (mid : W) → length ss ≡ 0
        → RewritesBody same modules begins m (record { scopes = []; state = w }) p move (record { scopes = ss; state = mid })
        → Fits' same modules linked Whole begins some m (kind_by modules linked awaits cs) (record { scopes = []; state = w }) (size_rest p) move (record { scopes = ss; state = mid }) → Result w m p cs
    goes_shaped w m p cs f enough lt move [] mid e d q = goes_on w m p cs f enough lt move mid d q
    goes_shaped w m p cs f enough lt move (s ∷ ss) mid e d q = absurd (omega (arith, e))

    goes_by : (w : W) (m : N) (p : Rest V) (cs : List (Active N)) → Run w m p cs → MAX_STEPS < w.engine.steps + k → measure p cs < suc n
        → Moves same modules linked Whole begins some m (kind_by modules linked awaits cs) (record { scopes = []; state = w }) p → Result w m p cs
    goes_by w m p cs f enough lt (moves move after d q) =
        goes_shaped w m p cs f enough lt move after.scopes after.state (shape same modules linked Whole begins some m (kind_by modules linked awaits cs) (record { scopes = []; state = w }) (size_rest p) move after q) d q

    -- what has no part left returns, or ends
    at_end : (w : W) (m : N) (cs : List (Active N)) → Run w m end cs → MAX_STEPS < w.engine.steps + k → measure {N = N} end cs < suc n → Result w m end cs
    at_end w m [] f enough lt = (Normal, (w, (ends, record { fits = f.state; keeps = λ v q. q })))
    at_end w m (c ∷ cs) f enough lt =
        let x = again w c.at (fill_rest (Val Undefined) c.rest) cs (let s = same_rest {V = V} (Val Undefined) refl c.rest in omega (arith, s, lt)) enough (record {
          state = f.state;
          home = f.before.0;
          holds = filled_rest (K w) (Val Undefined) tt (kind_by modules linked awaits cs) c.rest f.before.1;
          before = f.before.2;
        }) in
        (x.0, (x.1.0, (returns x.1.1.0, x.1.1.1)))

    one_more : (w : W) (m : N) (r : Rest V) (cs : List (Active N)) → measure r cs < suc n → MAX_STEPS < w.engine.steps + k → Run w m r cs → Result w m r cs
    one_more w m end cs lt enough f = at_end w m cs f enough lt
    one_more w m (more p rest) cs lt enough f =
        goes_by w m (more p rest) cs f enough lt
        (some_move same modules linked Whole begins some m (kind_by modules linked awaits cs) (record { scopes = []; state = w }) p rest (record { state = f.state; scopes = tt; home = f.home }) f.holds.0 f.holds.1)

  within : (k : ℕ) → Lower k → (n : ℕ) → Again k n
  within k lower zero w m r cs lt enough f = absurd (omega (arith, lt))
  within k lower (suc n) w m r cs lt enough f = one_more k n lower (within k lower n) w m r cs lt enough f

  below : (k : ℕ) → Lower k
  below zero w m r cs le lt f = absurd (omega (arith, le, lt))
  below (suc k) w m r cs le lt f = within k (below k) (suc (measure r cs)) w m r cs (omega arith) (omega (arith, lt)) f

  pub some_segment : (w : W) (m : N) (r : Rest V) (cs : List (Active N)) → Run w m r cs → Result w m r cs
  some_segment w m r cs f = within (suc MAX_STEPS) (below (suc MAX_STEPS)) (suc (measure r cs)) w m r cs (omega arith) (omega arith) f
