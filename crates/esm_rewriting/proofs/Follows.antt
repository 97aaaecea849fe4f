-- What follows a rewriting of what fits: it fits, and a segment of it is one of the whole.
use Rattle.std.proofs.Common.{◌≡◌, ℕ, Bool, true, false, List, [], ◌∷◌, ◌++◌, Option, Some, None, refl, subst, sym, length}
use Rattle.std.specs.Prelude.{codes, ⊤, nat_lt}
use Rattle.esm_base.specs.declared.limits.Limit.{Limit}
use Rattle.esm_base.specs.declared.limits.TheConstants.{MAX_CALL_DEPTH}
use Rattle.esm_values.specs.Value.{Value, Undefined, Truth, Text, Func, Error, Namespace, Promise}
use Rattle.esm_values.specs.Plans.{Rewritten as comes}
use Rattle.esm_values.specs.Errors.{make_error, fault}
use Rattle.esm_values.specs.declared.errors.FaultKind.TheVariants as kinds
use Rattle.esm_values.specs.Operators.{values, look_of}
use Rattle.esm_values.specs.Operators.{Look as look}
use Rattle.esm_expr_eval.specs.Terms.{Term}
use Rattle.esm_expr_eval.specs.Terms.Term.{Val, Fails}
use Rattle.esm_expr_eval.specs.Ready.{Holds}
use Rattle.esm_expr_eval.proofs.Lands.{AllKnown}
use Rattle.esm_env.specs.Declarations.{FunctionCode}
use Rattle.esm_promise.specs.Outer.{Outer}
use Rattle.esm_env.specs.Modules.{Modules, function_of}
use Rattle.esm_rewriting.specs.Scopes.{Scope, parameters}
use Rattle.esm_rewriting.specs.Rest.{Rest, end, more, fill_rest}
use Rattle.esm_rewriting.specs.State.{State, Importing, new_error}
use Rattle.esm_rewriting.specs.BodyRewriting.{RewrittenBody, On, Gives, Waits}
use Rattle.esm_rewriting.specs.Segment.{Active, Ended, Next, Goes, Over, Segment, RewritesOutermost, next_by, called, called_by, call_by}
use Rattle.esm_rewriting.specs.Segment.{Segment as segment}
use Rattle.esm_rewriting.specs.Fits.{Kind, of_function, FitsStmts, HoldsScope, HoldsRest, FitsState, Knows, kind_by, FitCallers, FitsRun}
use Rattle.esm_rewriting.specs.Chains.{Comes, here, last, later, EndsSo, IsFitNext}
use Rattle.esm_rewriting.proofs.Grown.{held_rest, filled_rest, size_rest, new_whole, new_scope_of}
use Rattle.esm_rewriting.proofs.OneAct.{BeginsOne}
use Rattle.esm_rewriting.proofs.OneMove.{moves_one}
use Rattle.esm_rewriting.proofs.SomeAct.{BeginsSome}
use Rattle.esm_rewriting.proofs.SomeMove.{Fits', Moves, moves, some_move}

module _ {N I : Type 0} (same : N → N → Bool) (modules : I → Modules N) (linked : I → N → Bool) (Whole : Outer N I → Type 0) (begins : Importing N I) (some : BeginsSome modules linked Whole begins) (one : BeginsOne begins) (awaits : Bool) where
  abbrev W : Type 0
  W = State N I

  abbrev V : Type 0
  V = Value N

  abbrev K : W → V → Type 0
  K w v = Knows modules linked w.outer.imports v

  abbrev Run : W → N → Rest V → List (Active N) → Type 0
  Run w m r cs = FitsRun modules linked Whole w m awaits r cs

  abbrev kind : List (Active N) → Kind
  kind cs = kind_by modules linked awaits cs

  abbrev pub Outermost : N → W → Rest V → RewrittenBody V Limit → W → Type 0
  Outermost = RewritesOutermost same modules begins

  abbrev pub Landed : N → Kind → W → Rest V → RewrittenBody V Limit → W → Type 0
  Landed m k w r move mid = Fits' same modules linked Whole begins some m k (record { scopes = []; state = w }) (size_rest r) move (record { scopes = []; state = mid })

  -- the rewriting is the one that there is, which fits
  pub landed_by : (m : N) (k : Kind) (w mid : W) (r : Rest V) (move : RewrittenBody V Limit) → Outermost m w r move mid → Moves same modules linked Whole begins some m k (record { scopes = []; state = w }) r → Landed m k w r move mid
  landed_by m k w mid r move d (moves other after e f) =
      let o = moves_one same modules begins one m e d in
      subst (λ z. Fits' same modules linked Whole begins some m k (record { scopes = []; state = w }) (size_rest r) move z) (sym o.1)
      (subst (λ move. Fits' same modules linked Whole begins some m k (record { scopes = []; state = w }) (size_rest r) move after) (sym o.0) f)

  landed : (w mid : W) (m : N) (r : Rest V) (cs : List (Active N)) (move : RewrittenBody V Limit) → Run w m r cs → Outermost m w r move mid → Landed m (kind cs) w r move mid
  landed w mid m end cs move f d = elim d [ ]
  landed w mid m (more p r) cs move f d =
      landed_by m (kind cs) w mid (more p r) move d
      (some_move same modules linked Whole begins some m (kind cs) (record { scopes = []; state = w }) p r (record { state = f.state; scopes = tt; home = f.home }) f.holds.0 f.holds.1)

  -- ---- what follows fits

  kept_callers : (w after : W) → ((v : V) → K w v → K after v) → (cs : List (Active N)) → FitCallers modules linked w.outer.imports awaits cs → FitCallers modules linked after.outer.imports awaits cs
  kept_callers w after k [] h = tt
  kept_callers w after k (c ∷ cs) h = (k (Namespace c.at) h.0, held_rest (K w) (K after) k ⊤ (kind cs) c.rest h.1, kept_callers w after k cs h.2)

  pub back : (w : W) (c : Active N) (cs : List (Active N)) (given : Term V) → FitsState modules linked Whole w → Holds (K w) ⊥ given → FitCallers modules linked w.outer.imports awaits (c ∷ cs) → Run w c.at (fill_rest given c.rest) cs
  back w c cs given s h b = record { state = s; home = b.0; holds = filled_rest (K w) given h (kind cs) c.rest b.1; before = b.2 }

  known_parameters : (P : V → Type 0) → P Undefined → (xs : List (List ℕ)) (vs : List V) → AllKnown P vs → HoldsScope P (parameters Undefined xs vs)
  known_parameters P u [] vs h = tt
  known_parameters P u (x ∷ xs) [] h = (u, known_parameters P u xs [] tt)
  known_parameters P u (x ∷ xs) (v ∷ vs) h = (h.0, known_parameters P u xs vs h.1)

  known_both : (P : V → Type 0) (s t : Scope V) → HoldsScope P s → HoldsScope P t → HoldsScope P (s ++ t)
  known_both P [] t h g = g
  known_both P (x ∷ s) t h g = (h.0, known_both P s t h.1 g)

  function_fits : (mid : W) (g : N) (index : ℕ) (code : FunctionCode) → FitsState modules linked Whole mid → linked mid.outer.imports g ≡ true → function_of (modules mid.outer.imports) g index ≡ Some code → FitsStmts of_function code.body
  function_fits mid g index code s l e = record { returns = λ q. absurd cc; awaits = λ q. (some.readable mid.outer s.whole).functions g index code l e }

  calls_by : (mid : W) (m g : N) (index : ℕ) (vs : List V) (s : Rest V) (cs : List (Active N)) → FitsState modules linked Whole mid → linked mid.outer.imports m ≡ true → FitCallers modules linked mid.outer.imports awaits cs → linked mid.outer.imports g ≡ true
      → (code : FunctionCode) → function_of (modules mid.outer.imports) g index ≡ Some code → AllKnown (K mid) vs → HoldsRest (K mid) ⊤ (kind cs) s → (b : Bool) → nat_lt (length cs) MAX_CALL_DEPTH ≡ b
      → IsFitNext modules linked Whole awaits (call_by same modules begins b m s cs mid (called (modules mid.outer.imports) (Func g index) vs))
  calls_by mid m g index vs s cs st at before home code e kvs hs true b =
      subst (λ c. IsFitNext modules linked Whole awaits (call_by same modules begins true m s cs mid (called_by g vs c))) (sym e) (record {
        state = st;
        home = home;
        holds = (
          (
            known_both (K mid) _ _ (known_parameters (K mid) tt code.parameters vs kvs) (new_scope_of (K mid) (values same) tt (λ b. tt) (λ t. tt) of_function code.body),
            new_whole (K mid) (values same) tt (λ b. tt) (λ t. tt) of_function code.body (function_fits mid g index code st home e),
          ),
          tt,
        );
        before = (at, hs, before);
      })
  calls_by mid m g index vs s cs st at before home code e kvs hs false b =
      record {
        state = record { whole = some.errors mid.outer (make_error mid.outer.errors (fault kinds.RangeError (codes "call depth"))) st.whole; cells = st.cells; standing = st.standing };
        home = at;
        holds = filled_rest (K mid) (Fails (new_error mid)) tt (kind cs) s hs;
        before = before;
      }

  calls_known : (mid : W) (m : N) (v : V) (vs : List V) (s : Rest V) (cs : List (Active N)) → FitsState modules linked Whole mid → linked mid.outer.imports m ≡ true → FitCallers modules linked mid.outer.imports awaits cs
      → look_of v ≡ look.Func → K mid v → AllKnown (K mid) vs → HoldsRest (K mid) ⊤ (kind cs) s
      → IsFitNext modules linked Whole awaits (call_by same modules begins (nat_lt (length cs) MAX_CALL_DEPTH) m s cs mid (called (modules mid.outer.imports) v vs))
  calls_known mid m Undefined vs s cs st at before e kv kvs hs = absurd cc
  calls_known mid m (Truth b) vs s cs st at before e kv kvs hs = absurd cc
  calls_known mid m (Text t) vs s cs st at before e kv kvs hs = absurd cc
  calls_known mid m (Func g index) vs s cs st at before e kv kvs hs = calls_by mid m g index vs s cs st at before kv.0 kv.1.0 kv.1.1 kvs hs _ refl
  calls_known mid m (Error id) vs s cs st at before e kv kvs hs = absurd cc
  calls_known mid m (Namespace g) vs s cs st at before e kv kvs hs = absurd cc
  calls_known mid m (Promise id) vs s cs st at before e kv kvs hs = absurd cc

  pub next_fits : (w mid : W) (m : N) (r : Rest V) (cs : List (Active N)) (move : RewrittenBody V Limit) → Run w m r cs → Landed m (kind cs) w r move mid → IsFitNext modules linked Whole awaits (next_by same modules begins m cs move mid)
  next_fits w mid m r cs (On (comes.Goes s)) f (n, (l, (h, less))) = record { state = l.fits.state; home = l.fits.home; holds = h; before = kept_callers w mid l.keeps cs f.before }
  next_fits w mid m r [] (On (comes.Leaves v)) f (n, (l, h)) = (l.fits.state, h)
  next_fits w mid m r (c ∷ cs) (On (comes.Leaves v)) f (n, (l, h)) = back mid c cs (Fails v) l.fits.state h (kept_callers w mid l.keeps (c ∷ cs) f.before)
  next_fits w mid m r cs (On (comes.Calls v vs s)) f (n, (l, (e, (kv, (kvs, h))))) = calls_known mid m v vs s cs l.fits.state l.fits.home (kept_callers w mid l.keeps cs f.before) e kv kvs h
  next_fits w mid m r cs (On (comes.Stops why)) f q = q.fits.state
  next_fits w mid m r [] (Gives v) f (a, q) = absurd cc
  next_fits w mid m r (c ∷ cs) (Gives v) f (a, (n, (l, h))) = back mid c cs (Val v) l.fits.state h (kept_callers w mid l.keeps (c ∷ cs) f.before)
  next_fits w mid m r [] (Waits v s) f (a, (n, (l, (kv, h)))) = (l.fits.state, a, kv, h)
  next_fits w mid m r (c ∷ cs) (Waits v s) f (a, q) = absurd cc

  -- a segment of what follows is one of the whole
  pub over_by : (w mid : W) (m : N) (r : Rest V) (cs : List (Active N)) (move : RewrittenBody V Limit) → Outermost m w r move mid → (next : Option (Next N I)) → next_by same modules begins m cs move mid ≡ next → (how : Ended N) (after : W)
      → EndsSo same modules begins next how after → Segment same modules begins w m r cs how after
  over_by w mid m r cs move d None e how after h = absurd h
  over_by w mid m r cs move d (Some (Goes n s others late)) e how after h = segment.goes move d e h
  over_by w mid m r cs move d (Some (Over how' w')) e how after h =
      subst (λ z. Segment same modules begins w m r cs how z) (sym h.1) (subst (λ how. Segment same modules begins w m r cs how w') (sym h.0) (segment.over move d e))

  -- ---- chains

  -- what follows a chain of rewritings fits
  pub fits_next : (m : N) (cs : List (Active N)) {w mid : W} {r : Rest V} {move : RewrittenBody V Limit} → Comes same modules begins m w r move mid → Run w m r cs → IsFitNext modules linked Whole awaits (next_by same modules begins m cs move mid)
  fits_next m cs here f = f
  fits_next m cs (last {w = w} {mid = mid} {r = r} {move = move} d) f = next_fits w mid m r cs move f (landed w mid m r cs move f d)
  fits_next m cs (later {w = w} {mid = mid} {r = r} {s = s} d c) f = fits_next m cs c (next_fits w mid m r cs (On (comes.Goes s)) f (landed w mid m r cs (On (comes.Goes s)) f d))

  -- and a segment of it is one of the whole
  pub ends_whole : (m : N) (cs : List (Active N)) (how : Ended N) (after : W) {w mid : W} {r : Rest V} {move : RewrittenBody V Limit} → Comes same modules begins m w r move mid → EndsSo same modules begins (next_by same modules begins m cs move mid) how after
      → Segment same modules begins w m r cs how after
  ends_whole m cs how after here h = h
  ends_whole m cs how after (last {w = w} {mid = mid} {r = r} {move = move} d) h = over_by w mid m r cs move d _ refl how after h
  ends_whole m cs how after (later {s = s} d c) h = segment.goes (On (comes.Goes s)) d refl (ends_whole m cs how after c h)
