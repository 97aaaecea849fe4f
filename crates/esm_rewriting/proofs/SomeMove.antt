-- What remains of a body has a rewriting, in a state that fits.
use Rattle.std.proofs.Common.{◌≡◌, ℕ, suc, ◌+◌, ◌<◌, inl, inr, Bool, true, false, List, [], ◌∷◌, Option, Some, None, refl, ap, subst, sym, ◌∙◌, arith, length}
use Rattle.std.specs.Prelude.{⊤, cond, ◌&&◌}
use Rattle.std.specs.Str.{bytes_eq}
use Rattle.esm_base.specs.declared.limits.Limit.{Limit}
use Rattle.esm_tree.specs.Syntax.{Stmts}
use Rattle.esm_tree.specs.Syntax.{Stmt as Statement}
use Rattle.esm_values.specs.Value.{Value}
use Rattle.esm_values.specs.Acts.{Act as act}
use Rattle.esm_values.specs.Plans.{Rewritten, inside, Plan, Follows}
use Rattle.esm_values.specs.Plans.Rewritten.{Goes, Leaves, Calls, Stops}
use Rattle.esm_values.specs.Plans.Plan.{Ends, Asks}
use Rattle.esm_values.specs.Operators.{values, look_of, is_true}
use Rattle.esm_values.specs.Operators.Look.{Func}
use Rattle.esm_values.specs.declared.errors.FaultKind.{FaultKind}
use Rattle.esm_values.specs.Errors.{make_error, fault}
use Rattle.esm_expr_eval.specs.Terms.{Term}
use Rattle.esm_expr_eval.specs.Terms.Term.{Val}
use Rattle.esm_expr_eval.specs.Ready.{Holds}
use Rattle.esm_expr_eval.proofs.Lands.{AllKnown, Later, Followed, followed, stays, onward, ask}
use Rattle.esm_expr_eval.proofs.HasRewriting.{Comes', comes, come, Here, Arrives}
use Rattle.esm_expr_eval.specs.Sizes.{size}
use Rattle.esm_promise.specs.Outer.{Outer}
use Rattle.esm_env.specs.Modules.{Modules}
use Rattle.esm_env.specs.Cells.{Cell, Cells, write_cell}
use Rattle.esm_env.specs.Writing.{write_at, write_by, constant_by}
use Rattle.esm_rewriting.specs.Scopes.{Scope, scope_of, handler_scope, set_in, set_by, set_in_scopes, set_where, in_scope, in_scopes}
use Rattle.esm_rewriting.specs.Rest.{Use, Part, Rest, end, more, begin, branch, stmt_count}
use Rattle.esm_rewriting.specs.Rest.Part.{Whole, Does, Stands, In, Tries}
use Rattle.esm_rewriting.specs.Rest.Use.{Drops, Sets, Writes, Throws, Returns, Prints, Chooses, Awaits}
use Rattle.esm_rewriting.specs.State.{State, Importing}
use Rattle.esm_rewriting.specs.Acts.{Inner, with_state, with_new, set_at, set_name, write_in, scope_write, module_write}
use Rattle.esm_rewriting.specs.BodyRewriting.{RewrittenBody, On, Gives, Waits, RewritesBody, own_url, within, caught, wrote}
use Rattle.esm_rewriting.specs.BodyRewriting.RewritesBody.{begins_at, does, drops, sets, writes, throws, returns, prints, chooses, awaits, inner, inner_end, tries, tries_end}
use Rattle.esm_rewriting.specs.Fits.{Kind, FitsStmt, FitsStmts, FitsUse, HoldsScope, HoldScopes, HoldsPart, HoldsRest}
use Rattle.esm_rewriting.proofs.Grown.{held_scope, held_rest, opened_rest, size_part, size_rest, size_whole, new_whole, new_scope_of, new_branch, new_begin}
use Rattle.esm_rewriting.proofs.SomeAct.{BeginsSome, HaltsIn, Took, took_none, Known, FitsInner, view, acts, lives}

module _ {N I : Type 0} (same : N → N → Bool) (modules : I → Modules N) (linked : I → N → Bool) (Fit : Outer N I → Type 0) (begins : Importing N I) (some : BeginsSome modules linked Fit begins) (m : N) where
  abbrev W : Type 0
  W = Inner N I

  abbrev V : Type 0
  V = Value N

  abbrev K : W → V → Type 0
  K w v = Known same modules linked Fit begins some w.state v

  abbrev F : W → Type 0
  F w = FitsInner same modules linked Fit begins some m w

  -- what a rewriting leaves, behind n steps
  pub record Left (w : W) (n : ℕ) (after : W) : Type 0 where
    pub fits : F after
    pub keeps : (v : V) → K w v → K after v
    pub scopes : length after.scopes ≡ length w.scopes
    pub took : Took w.state n after.state

  left_by : {w after : W} {n : ℕ} → Later (view same modules linked Fit begins some m) w n after → Left w n after
  left_by l = record { fits = l.fits; keeps = l.keeps; scopes = ap length l.took.scopes; took = l.took.took }

  left_here : {w : W} → F w → Left w 0 w
  left_here {w} f = record { fits = f; keeps = λ v k. k; scopes = refl; took = took_none w.state }

  abbrev pub RestIn : W → Type 0 → Kind → Rest V → Type 0
  RestIn w gap k r = HoldsRest (K w) gap k r

  -- what a rewriting leaves that stops
  pub record Halted (w after : W) : Type 0 where
    pub fits : F after
    pub keeps : (v : V) → K w v → K after v
    pub scopes : length after.scopes ≡ length w.scopes

  -- what a rewriting comes to, of what remains with this size
  abbrev pub Fits' : Kind → W → ℕ → RewrittenBody V Limit → W → Type 0
  Fits' k w s (On (Goes r)) after = (n : ℕ) × (Left w n after × (RestIn after ⊥ k r × (n ≡ 0 → size_rest r < s)))
  Fits' k w s (On (Leaves v)) after = (n : ℕ) × (Left w n after × K after v)
  Fits' k w s (On (Calls f vs r)) after = (n : ℕ) × (Left w (suc n) after × ((look_of f ≡ Func) × (K after f × (AllKnown (K after) vs × RestIn after ⊤ k r))))
  Fits' k w s (On (Stops why)) after = Halted w after
  Fits' k w s (Gives v) after = (k.returns ≡ true) × ((n : ℕ) × (Left w n after × K after v))
  Fits' k w s (Waits v r) after = (k.awaits ≡ true) × ((n : ℕ) × (Left w n after × (K after v × RestIn after ⊤ k r)))

  pub data Moves (k : Kind) (w : W) (r : Rest V) : Type 0 where
    moves : (move : RewrittenBody V Limit) (after : W) → RewritesBody same modules begins m w r move after → Fits' k w (size_rest r) move after → Moves k w r

  -- ---- what is kept

  kept_rest : {w after : W} {n : ℕ} (k : Kind) (gap : Type 0) (r : Rest V) → Left w n after → RestIn w ⊥ k r → RestIn after gap k r
  kept_rest {w} {after} k gap r l h = opened_rest (K after) gap k r (held_rest (K w) (K after) l.keeps ⊥ k r h)

  kept_scope : {w after : W} {n : ℕ} (s : Scope V) → Left w n after → HoldsScope (K w) s → HoldsScope (K after) s
  kept_scope {w} {after} s l h = held_scope (K w) (K after) l.keeps s h

  -- ---- at once

  at_once : {k : Kind} {w : W} {r : Rest V} (s : Rest V) (after : W) → RewritesBody same modules begins m w r (On (Goes s)) after → Left w 0 after → RestIn after ⊥ k s → size_rest s < size_rest r → Moves k w r
  at_once s after h l q lt = moves (On (Goes s)) after h (0, (l, (q, λ e. lt)))

  -- ---- names that are set and written

  set_scope : (P : V → Type 0) (s : Scope V) (x : List ℕ) (v : V) → P v → HoldsScope P s → HoldsScope P (set_in s x v)
  set_scope P [] x v k h = tt
  set_scope P (s ∷ ss) x v k h = by (bytes_eq s.name x) (set_scope P ss x v k h.1)
    where
      by : (b : Bool) → HoldsScope P (set_in ss x v) → HoldsScope P (set_by b s v ss (set_in ss x v))
      by true later = (k, h.1)
      by false later = (h.0, later)

  set_cells : (same' : N → N → Bool) (w : W) (cells : Cells N) (n : N) (x : List ℕ) (v : V) → K w v → ((p : N) (y : List ℕ) (u : V) → cells p y ≡ Some u → K w u)
      → (p : N) (y : List ℕ) (u : V) → write_cell same' cells n x v p y ≡ Some u → K w u
  set_cells same' w cells n x v k h p y u e = by (same' n p && bytes_eq x y) e
    where
      by : (b : Bool) → cond b (Some v) (cells p y) ≡ Some u → K w u
      by true e = subst (K w) (let q : v ≡ u = cc in q) k
      by false e = h p y u e

  written : (w : W) (x : List ℕ) (v : V) → F w → K w v → Left w 0 (with_state w (record w.state { cells = write_cell same w.state.cells m x v }))
  written w x v f k = record {
    fits = record {
      state = record { whole = f.state.whole; cells = set_cells same w w.state.cells m x v k f.state.cells; standing = f.state.standing };
      scopes = f.scopes;
      home = f.home;
    };
    keeps = λ u q. q;
    scopes = refl;
    took = record { steps = omega arith; bound = λ l. absurd (omega (arith, l)) };
  }

  set_left : (ss : List (Scope V)) (w : State N I) (x : List ℕ) (v : V) → F (record { scopes = ss; state = w }) → K (record { scopes = ss; state = w }) v
      → Left (record { scopes = ss; state = w }) 0 (set_at same modules begins m ss w x v)
  set_left [] w x v f k = written (record { scopes = []; state = w }) x v f k
  set_left (s ∷ ss) w x v f k = record {
    fits = record { state = f.state; scopes = (set_scope (K (record { scopes = s ∷ ss; state = w })) s x v k f.scopes.0, f.scopes.1); home = f.home };
    keeps = λ u q. q;
    scopes = refl;
    took = took_none w;
  }

  set_all : (P : V → Type 0) (ss : List (Scope V)) (x : List ℕ) (v : V) → P v → HoldScopes P ss → HoldScopes P (set_in_scopes ss x v) × (length (set_in_scopes ss x v) ≡ length ss)
  set_all P [] x v k h = (tt, refl)
  set_all P (s ∷ ss) x v k h = by (in_scope s x) (set_all P ss x v k h.1)
    where
      by : (c : Option (Cell V)) → HoldScopes P (set_in_scopes ss x v) × (length (set_in_scopes ss x v) ≡ length ss)
          → HoldScopes P (set_where c s ss x v (set_in_scopes ss x v)) × (length (set_where c s ss x v (set_in_scopes ss x v)) ≡ suc (length ss))
      by (Some c) rest = ((set_scope P s x v k h.0, h.1), refl)
      by None rest = ((h.0, rest.0), ap suc rest.1)

  -- what an assignment comes to
  Wrote : W → Option V × W → Type 0
  Wrote w (None, after) = Left w 0 after
  Wrote w (Some v, after) = Left w 0 after × K after v

  new_left : (w : W) (kind : FaultKind) (message : List ℕ) → F w → Left w 0 (with_new w kind message)
  new_left w kind message f = record {
    fits = record { state = record { whole = some.errors w.state.outer (make_error w.state.outer.errors (fault kind message)) f.state.whole; cells = f.state.cells; standing = f.state.standing }; scopes = f.scopes; home = f.home };
    keeps = λ v k. k;
    scopes = refl;
    took = record { steps = omega arith; bound = λ l. absurd (omega (arith, l)) };
  }

  scope_wrote : (w : W) (x : List ℕ) (v : V) (constant : Bool) (o : Option V) → F w → K w v → Wrote w (scope_write same modules begins m w x v constant o)
  unfolding Wrote
  scope_wrote w x v constant None f k = (new_left w _ _ f, tt)
  scope_wrote w x v true (Some old) f k = (new_left w _ _ f, tt)
  scope_wrote w x v false (Some old) f k =
      let s = set_all (K w) w.scopes x v k f.scopes in
      record { fits = record { state = f.state; scopes = s.0; home = f.home }; keeps = λ u q. q; scopes = s.1; took = took_none w.state }

  abbrev cells' : W → List ℕ → V → Cells N
  cells' w x v = write_cell same w.state.cells m x v

  by_constant : (w : W) (x : List ℕ) (v : V) (b : Bool) → F w → Wrote w (module_write same modules begins m w x (constant_by b))
  unfolding Wrote
  by_constant w x v true f = (new_left w _ _ f, tt)
  by_constant w x v false f = (new_left w _ _ f, tt)

  by_value : (w : W) (x : List ℕ) (v : V) (constant : Bool) (o : Option V) → F w → K w v → Wrote w (module_write same modules begins m w x (write_by (cells' w x v) constant o))
  unfolding Wrote
  by_value w x v constant None f k = (new_left w _ _ f, tt)
  by_value w x v true (Some old) f k = (new_left w _ _ f, tt)
  by_value w x v false (Some old) f k = written w x v f k

  by_cell : (w : W) (x : List ℕ) (v : V) (c : Option (Cell V)) (b : Bool) → F w → K w v → Wrote w (module_write same modules begins m w x (write_at (cells' w x v) c b))
  by_cell w x v (Some c) b f k = by_value w x v c.constant c.value f k
  by_cell w x v None b f k = by_constant w x v b f

  write_left : (w : W) (x : List ℕ) (v : V) (c : Option (Cell V)) → F w → K w v → Wrote w (write_in same modules begins m w x v c)
  write_left w x v (Some c) f k = scope_wrote w x v c.constant c.value f k
  write_left w x v None f k = by_cell w x v _ _ f k

  writes_by : (k : Kind) (w : W) (x : List ℕ) (v : V) (rest : Rest V) (o : Option V) (after : W) → Wrote w (o, after) → RestIn w ⊥ k rest → RewritesBody same modules begins m w (more (Does (Writes x) (Val v)) rest) (wrote rest o) after
      → Moves k w (more (Does (Writes x) (Val v)) rest)
  unfolding Wrote
  writes_by k w x v rest None after l h r = at_once rest after r l (kept_rest k ⊥ rest l h) (omega arith)
  writes_by k w x v rest (Some u) after l h r = moves (On (Leaves u)) after r (0, (l.0, l.1))

  -- ---- plans

  abbrev view' : Rattle.esm_expr_eval.proofs.Lands.Views W V
  view' = view same modules linked Fit begins some m

  abbrev Goal : Kind → W → ℕ → Rewritten V Limit (Rest V) → W → Type 0
  Goal k w s c after = Fits' k w s (On c) after

  stop : (k : Kind) (w mid : W) (s n : ℕ) → Later view' w n mid → (why : Limit) (after : W) → HaltsIn same modules linked Fit begins some m mid after → Goal k w s (Stops why) after
  stop k w mid s n l why after h = record { fits = h.fits; keeps = λ v q. h.keeps v (l.keeps v q); scopes = ap length (h.scopes ∙ l.took.scopes) }

  start : {w : W} → F w → Later view' w 0 w
  start f = stays view' (values same) (acts same modules linked Fit begins some m) (lives same modules linked Fit begins some m) f

  begins_some : (k : Kind) (w : W) (st : Statement) (rest : Rest V) → F w → FitsStmt k st → RestIn w ⊥ k rest
      → Followed view' (values same) (acts same modules linked Fit begins some m) (lives same modules linked Fit begins some m) (Goal k w (size_rest (more (Whole st) rest))) w (Asks (act.Step 1) (λ _. Ends (Goes (begin (values same) st rest))))
  begins_some k w st rest f h r =
      ask view' (values same) (acts same modules linked Fit begins some m) (lives same modules linked Fit begins some m) (Goal k w (size_rest (more (Whole st) rest))) w (act.Step 1) _ (stop k w w (size_rest (more (Whole st) rest)) 0 (start f)) f tt
      (λ t mid l q. followed _ mid Follows.ends (1, (left_by l, (new_begin (K mid) (values same) tt (λ b. tt) (λ t. tt) k st rest h (held_rest (K w) (K mid) l.keeps ⊥ k rest r), λ e. absurd (omega (arith, e))))))

  prints_some : (k : Kind) (w : W) (v : V) (rest : Rest V) → F w → K w v → RestIn w ⊥ k rest
      → Followed view' (values same) (acts same modules linked Fit begins some m) (lives same modules linked Fit begins some m) (Goal k w (size_rest (more (Does Prints (Val v)) rest))) w (Asks (act.Step 1) (λ _. Asks (act.Print (v ∷ [])) (λ _. Ends (Goes rest))))
  prints_some k w v rest f q r =
      ask view' (values same) (acts same modules linked Fit begins some m) (lives same modules linked Fit begins some m) (Goal k w (size_rest (more (Does Prints (Val v)) rest))) w (act.Step 1) _ (stop k w w (size_rest (more (Does Prints (Val v)) rest)) 0 (start f)) f tt
      (λ t mid l q'. ask view' (values same) (acts same modules linked Fit begins some m) (lives same modules linked Fit begins some m) (Goal k w (size_rest (more (Does Prints (Val v)) rest))) mid (act.Print (v ∷ [])) _ (stop k w mid (size_rest (more (Does Prints (Val v)) rest)) 1 l) l.fits (l.keeps v q, tt)
      (λ t late l' q''.
      let both = onward view' (values same) (acts same modules linked Fit begins some m) (lives same modules linked Fit begins some m) l l' in
      followed _ late Follows.ends (1, (left_by both, (held_rest (K w) (K late) both.keeps ⊥ k rest r, λ e. absurd (omega (arith, e)))))))

  planned : (k : Kind) {w : W} {r : Rest V} {p : Plan V Limit (Rest V)} → ((c : Rewritten V Limit (Rest V)) (after : W) → Follows (acts same modules linked Fit begins some m) w p c after → RewritesBody same modules begins m w r (On c) after)
      → Followed view' (values same) (acts same modules linked Fit begins some m) (lives same modules linked Fit begins some m) (Goal k w (size_rest r)) w p → Moves k w r
  planned k rule (followed c after f g) = moves (On c) after (rule c after f) g

  -- ---- the expression of a statement

  arrives_fits : (k : Kind) (w : W) (u : Use) (e : Term V) (rest : Rest V) → FitsUse k u → RestIn w ⊥ k rest → (c : Rewritten V Limit (Term V)) (after : W)
      → Arrives view' (values same) (own_url same modules begins m) (acts same modules linked Fit begins some m) (lives same modules linked Fit begins some m) w (size e) c after
      → Fits' k w (size_rest (more (Does u e) rest)) (On (inside (λ e. more (Does u e) rest) c)) after
  arrives_fits k w u e rest f r (Goes t) after (n, (l, (h, lt))) = (n, (left_by l, (((f, h), kept_rest k ⊥ rest (left_by l) r), λ q. omega (arith, lt))))
  arrives_fits k w u e rest f r (Leaves v) after (n, (l, h)) = (n, (left_by l, h))
  arrives_fits k w u e rest f r (Calls g vs t) after (n, (l, (q, (kg, (kvs, h))))) = (n, (left_by l, (q, (kg, (kvs, ((f, h), kept_rest k ⊤ rest (left_by l) r))))))
  arrives_fits k w u e rest f r (Stops why) after h = record { fits = h.fits; keeps = h.keeps; scopes = ap length h.scopes }

  expression_moves : (k : Kind) (w : W) (u : Use) (e : Term V) (rest : Rest V) → FitsUse k u → RestIn w ⊥ k rest
      → Comes' view' (values same) (own_url same modules begins m) (acts same modules linked Fit begins some m) (lives same modules linked Fit begins some m) w e → Moves k w (more (Does u e) rest)
  expression_moves k w u e rest f r (comes c after h l) = moves _ after (does h) (arrives_fits k w u e rest f r c after l)

  chosen : (V' : Type 0) (b : Bool) (ss others : Stmts) → size_part (branch {V = V} (values same) b ss others) < suc (suc (stmt_count ss + stmt_count others))
  chosen V' true ss others = let e = size_whole V ss in omega (arith, e)
  chosen V' false ss others = let e = size_whole V others in omega (arith, e)

  value_moves : (k : Kind) (w : W) (u : Use) (v : V) (rest : Rest V) → F w → FitsUse k u → K w v → RestIn w ⊥ k rest → Moves k w (more (Does u (Val v)) rest)
  value_moves k w Drops v rest f h q r = at_once rest w drops (left_here f) r (omega arith)
  value_moves k w (Sets x) v rest f h q r =
      let l = set_left w.scopes w.state x v f q in
      at_once rest (set_name same modules begins m w x v) sets l (kept_rest k ⊥ rest l r) (omega arith)
  value_moves k w (Writes x) v rest f h q r = writes_by k w x v rest _ _ (write_left w x v (in_scopes w.scopes x) f q) r writes
  value_moves k w Throws v rest f h q r = moves (On (Leaves v)) w throws (0, (left_here f, q))
  value_moves k w Returns v rest f h q r = moves (Gives v) w returns (h, (0, (left_here f, q)))
  value_moves k w Prints v rest f h q r = planned k (λ c after p. prints p) (prints_some k w v rest f q r)
  value_moves k w (Chooses ss others) v rest f h q r =
      let b = is_true (look_of v) in
      let lt = chosen V b ss others in
      at_once (more (branch (values same) b ss others) rest) w chooses (left_here f) (new_branch (K w) (values same) tt (λ b. tt) (λ t. tt) k b ss others h.0 h.1, r) (omega (arith, lt))
  value_moves k w (Awaits u) v rest f h q r = moves (Waits v (more (Stands u) rest)) w awaits (h.0, (0, (left_here f, (q, ((h.1, tt), opened_rest (K w) ⊤ k rest r)))))

  -- ---- blocks

  within_fits : (k : Kind) (w : W) (scope scope' : Scope V) (r rest : Rest V) (ss : List (Scope V)) (state : State N I) → length ss ≡ length w.scopes → RestIn w ⊥ k rest → (move : RewrittenBody V Limit)
      → Fits' k (record w { scopes = scope ∷ w.scopes }) (size_rest r) move (record { scopes = scope' ∷ ss; state = state })
      → Fits' k w (size_rest (more (In scope r) rest)) (within (λ r. more (In scope' r) rest) move) (record { scopes = ss; state = state })
  within_fits k w scope scope' r rest ss state len h move = by move
    where
      out : {n : ℕ} → Left (record w { scopes = scope ∷ w.scopes }) n (record { scopes = scope' ∷ ss; state = state }) → Left w n (record { scopes = ss; state = state })
      out l = record { fits = record { state = l.fits.state; scopes = l.fits.scopes.1; home = l.fits.home }; keeps = l.keeps; scopes = len; took = l.took }

      by : (move : RewrittenBody V Limit) → Fits' k (record w { scopes = scope ∷ w.scopes }) (size_rest r) move (record { scopes = scope' ∷ ss; state = state })
          → Fits' k w (size_rest (more (In scope r) rest)) (within (λ r. more (In scope' r) rest) move) (record { scopes = ss; state = state })
      by (On (Goes s)) (n, (l, (q, lt))) = (n, (out l, (((l.fits.scopes.0, q), kept_rest k ⊥ rest (out l) h), λ e. let x = lt e in omega (arith, x))))
      by (On (Leaves v)) (n, (l, q)) = (n, (out l, q))
      by (On (Calls f vs s)) (n, (l, (e, (kf, (kvs, q))))) = (n, (out l, (e, (kf, (kvs, ((l.fits.scopes.0, q), kept_rest k ⊤ rest (out l) h))))))
      by (On (Stops why)) q = record { fits = record { state = q.fits.state; scopes = q.fits.scopes.1; home = q.fits.home }; keeps = q.keeps; scopes = len }
      by (Gives v) (a, (n, (l, q))) = (a, (n, (out l, q)))
      by (Waits v s) (a, (n, (l, (kv, q)))) = (a, (n, (out l, (kv, ((l.fits.scopes.0, q), kept_rest k ⊤ rest (out l) h)))))

  -- the scopes behind a rewriting are as many as before
  pub shape : (k : Kind) (w : W) (s : ℕ) (move : RewrittenBody V Limit) (after : W) → Fits' k w s move after → length after.scopes ≡ length w.scopes
  shape k w s (On (Goes r)) after (n, (l, q)) = l.scopes
  shape k w s (On (Leaves v)) after (n, (l, q)) = l.scopes
  shape k w s (On (Calls f vs r)) after (n, (l, q)) = l.scopes
  shape k w s (On (Stops why)) after q = q.scopes
  shape k w s (Gives v) after (a, (n, (l, q))) = l.scopes
  shape k w s (Waits v r) after (a, (n, (l, q))) = l.scopes

  inner_by : (k : Kind) (w : W) (scope : Scope V) (r rest : Rest V) → RestIn w ⊥ k rest → (move : RewrittenBody V Limit) (ss : List (Scope V)) (state : State N I)
      → RewritesBody same modules begins m (record w { scopes = scope ∷ w.scopes }) r move (record { scopes = ss; state = state })
      → length ss ≡ suc (length w.scopes) → Fits' k (record w { scopes = scope ∷ w.scopes }) (size_rest r) move (record { scopes = ss; state = state }) → Moves k w (more (In scope r) rest)
  inner_by k w scope r rest h move [] state d len q = absurd (omega (arith, len))
  inner_by k w scope r rest h move (s ∷ ss) state d len q =
      moves (within (λ r. more (In s r) rest) move) (record { scopes = ss; state = state }) (inner {scope = scope} {scope' = s} d)
      (within_fits k w scope s r rest ss state (omega (arith, len)) h move q)

  inner_moves : (k : Kind) (w : W) (scope : Scope V) (r rest : Rest V) → RestIn w ⊥ k rest → Moves k (record w { scopes = scope ∷ w.scopes }) r → Moves k w (more (In scope r) rest)
  inner_moves k w scope r rest h (moves move after d q) = inner_by k w scope r rest h move after.scopes after.state d (shape k (record w { scopes = scope ∷ w.scopes }) (size_rest r) move after q) q

  -- ---- try

  handler_known : (P : V → Type 0) (x : Option (List ℕ)) (v : V) (handler : Stmts) → P v → HoldsScope P (scope_of handler) → HoldsScope P (handler_scope x v handler)
  handler_known P None v handler k h = h
  handler_known P (Some x) v handler k h = (k, h)

  tries_fits : (k : Kind) (w : W) (r rest : Rest V) (x : Option (List ℕ)) (handler : Stmts) → RestIn w ⊥ k rest → FitsStmts k handler → (move : RewrittenBody V Limit) (after : W) → Fits' k w (size_rest r) move after
      → Fits' k w (size_rest (more (Tries r x handler) rest)) (caught x handler rest move) after
  tries_fits k w r rest x handler h g (On (Goes s)) after (n, (l, (q, lt))) = (n, (l, (((q, g), kept_rest k ⊥ rest l h), λ e. let y = lt e in omega (arith, y))))
  tries_fits k w r rest x handler h g (On (Leaves v)) after (n, (l, q)) =
      let e = size_whole V handler in
      (n, (l, (((handler_known (K after) x v handler q (new_scope_of (K after) (values same) tt (λ b. tt) (λ t. tt) k handler), new_whole (K after) (values same) tt (λ b. tt) (λ t. tt) k handler g), kept_rest k ⊥ rest l h), λ z. omega (arith, e))))
  tries_fits k w r rest x handler h g (On (Calls f vs s)) after (n, (l, (e, (kf, (kvs, q))))) = (n, (l, (e, (kf, (kvs, ((q, g), kept_rest k ⊤ rest l h))))))
  tries_fits k w r rest x handler h g (On (Stops why)) after q = q
  tries_fits k w r rest x handler h g (Gives v) after q = q
  tries_fits k w r rest x handler h g (Waits v s) after (a, (n, (l, (kv, q)))) = (a, (n, (l, (kv, ((q, g), kept_rest k ⊤ rest l h)))))

  tries_moves : (k : Kind) (w : W) (r rest : Rest V) (x : Option (List ℕ)) (handler : Stmts) → RestIn w ⊥ k rest → FitsStmts k handler → Moves k w r → Moves k w (more (Tries r x handler) rest)
  tries_moves k w r rest x handler h g (moves move after d q) = moves (caught x handler rest move) after (tries d) (tries_fits k w r rest x handler h g move after q)

  -- ---- what remains

  does_by : (k : Kind) (w : W) (u : Use) (e : Term V) (rest : Rest V) → F w → FitsUse k u → Holds (K w) ⊥ e → RestIn w ⊥ k rest
      → Here view' (values same) (own_url same modules begins m) (acts same modules linked Fit begins some m) (lives same modules linked Fit begins some m) w e → Moves k w (more (Does u e) rest)
  does_by k w u e rest f h q r (inl x) =
      subst (λ e. Holds (K w) ⊥ e → Moves k w (more (Does u e) rest)) (sym x.1) (λ q. value_moves k w u x.0 rest f h q r) q
  does_by k w u e rest f h q r (inr c) = expression_moves k w u e rest h r c

  in_scope_fits : (w : W) (scope : Scope V) → F w → HoldsScope (K w) scope → F (record w { scopes = scope ∷ w.scopes })
  in_scope_fits w scope f h = record { state = f.state; scopes = (h, f.scopes); home = f.home }

  -- what remains, that isn't at its end, has a rewriting
  pub some_move : (k : Kind) (w : W) (p : Part V) (rest : Rest V) → F w → HoldsPart (K w) ⊥ k p → RestIn w ⊥ k rest → Moves k w (more p rest)
  some_move k w (Whole s) rest f h r = planned k (λ c after d. begins_at d) (begins_some k w s rest f h r)
  some_move k w (Does u e) rest f h r =
      does_by k w u e rest f h.0 h.1 r (come view' (values same) (own_url same modules begins m) (acts same modules linked Fit begins some m) (lives same modules linked Fit begins some m) w f e h.1)
  some_move k w (Stands u) rest f h r = absurd h.1
  some_move k w (In scope end) rest f h r = at_once rest w inner_end (left_here f) r (omega arith)
  some_move k w (In scope (more p s)) rest f h r =
      inner_moves k w scope (more p s) rest r (some_move k (record w { scopes = scope ∷ w.scopes }) p s (in_scope_fits w scope f h.0) h.1.0 h.1.1)
  some_move k w (Tries end x handler) rest f h r = at_once rest w tries_end (left_here f) r (omega arith)
  some_move k w (Tries (more p s) x handler) rest f h r = tries_moves k w (more p s) rest x handler r h.1 (some_move k w p s f h.0.0 h.0.1)
