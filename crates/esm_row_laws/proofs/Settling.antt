-- A place that is brought to the one whose first operation is its own has the same row, and what remains there leads there.
use Rattle.std.proofs.Common.{◌≡◌, zero, suc, Bool, List, [], ◌∷◌, Option, refl}
use Rattle.esm_tree.specs.Syntax as x
use Rattle.esm_tree.specs.Syntax.{Expr, none, more, last, compared, ends, member, call, absent, plain, awaited, Bindings, no_more, binding, Stmts}
use Rattle.esm_values.specs.Value.{Value}
use Rattle.esm_values.specs.Operators.{values}
use Rattle.esm_values.specs.Plans.Rewritten.{Goes}
use Rattle.esm_env.specs.Modules.{Modules}
use Rattle.esm_expr_eval.specs.Terms.{Term}
use Rattle.esm_expr_eval.specs.Terms.Term.{Val, Or, And, Equal, Sum, Post}
use Rattle.esm_expr_eval.specs.Terms.Terms.{none as nothing_more}
use Rattle.esm_expr_eval.specs.Terms.Compared.{last as no_comparison}
use Rattle.esm_expr_eval.specs.Terms.LinkTerms.{ends as no_links}
use Rattle.esm_expr_eval.specs.Rewriting.Rewrites.{or, and, equal_end, sum_end, post_end}
use Rattle.esm_rewriting.specs.Rest.{Rest}
use Rattle.esm_rewriting.specs.Rest.{Use as purposes}
use Rattle.esm_rewriting.specs.State.{State, Importing}
use Rattle.esm_rewriting.specs.Acts.{Inner}
use Rattle.esm_rewriting.specs.BodyRewriting.{On, RewritesTerm}
use Rattle.esm_rewriting.specs.Segment.{Segment}
use Rattle.esm_rewriting.specs.Contexts.{scopes_in}
use Rattle.esm_rewriting.proofs.Paths.{outer_goes}
use Rattle.esm_rows.specs.Rows.{Row}
use Rattle.esm_row_laws.specs.Spots.{left, Round, Kont, Uses, Ors, Ands, Equals, Compares, Sums, Adds, Turns, Posts, Passes, Prints, Makes, Imports, rounds_of, Spot, Begins, Has, Between, Opens, Handles, spot_row}
use Rattle.esm_row_laws.specs.Rooms.{HasRoom, SpotHasRoom}
use Rattle.esm_row_laws.specs.Remaining.{plug, contexts, rest_of, rest_at}
use Rattle.esm_row_laws.specs.Settled.{Stand, settle_part, settle_value, settle_left, settle}
use Rattle.esm_row_laws.specs.Leading.{Leads}
use Rattle.esm_row_laws.specs.Told.{IsOwn}
use Rattle.esm_row_laws.proofs.Plugged as plugged

-- ---- the row is the same

module _ {V : Type 0} where
  abbrev pub row_of : Stand V → Row
  row_of s = spot_row s.spot

  part_row : (e : Expr) (k : Kont) (vs : List V) → row_of (settle_part e k vs) ≡ spot_row (Begins e k)
  part_row (x.Text s) k vs = refl
  part_row (x.Truth b) k vs = refl
  part_row x.Undefined k vs = refl
  part_row (x.Name name) k vs = refl
  part_row (x.Group e) k vs = part_row e k vs
  part_row (x.Or e es) k vs = part_row e (Ors es k) vs
  part_row (x.And e es) k vs = part_row e (Ands es k) vs
  part_row (x.Equal e cs) k vs = part_row e (Equals cs k) vs
  part_row (x.Sum e es) k vs = part_row e (Sums es k) vs
  part_row (x.Not e) k vs = part_row e (Turns k) vs
  part_row (x.Post e ls) k vs = part_row e (Posts ls k) vs
  part_row (x.Print none) k vs = refl
  part_row (x.Print (more e es)) k vs = part_row e (Prints zero es k) vs
  part_row x.EmptyError k vs = refl
  part_row (x.NewError e) k vs = part_row e (Makes k) vs
  part_row (x.Import e) k vs = part_row e (Imports k) vs
  part_row x.Url k vs = refl

  value_row : (k : Kont) (v : V) (vs : List V) → row_of (settle_value k v vs) ≡ spot_row (Has k)
  value_row (Uses purpose behind rs) v vs = refl
  value_row (Ors none k) v vs = value_row k v vs
  value_row (Ors (more e es) k) v vs = refl
  value_row (Ands none k) v vs = value_row k v vs
  value_row (Ands (more e es) k) v vs = refl
  value_row (Equals last k) v vs = value_row k v vs
  value_row (Equals (compared alike e cs) k) v vs = part_row e (Compares alike cs k) (v ∷ vs)
  value_row (Compares alike cs k) v vs = refl
  value_row (Sums none k) v vs = value_row k v vs
  value_row (Sums (more e es) k) v vs = part_row e (Adds es k) (v ∷ vs)
  value_row (Adds es k) v vs = refl
  value_row (Turns k) v vs = refl
  value_row (Posts ends k) v vs = value_row k v vs
  value_row (Posts (member name ls) k) v vs = refl
  value_row (Posts (call none ls) k) v vs = refl
  value_row (Posts (call (more e es) ls) k) v vs = part_row e (Passes zero es ls k) (v ∷ vs)
  value_row (Passes n none ls k) v vs = refl
  value_row (Passes n (more e es) ls k) v vs = part_row e (Passes (suc n) es ls k) (v ∷ vs)
  value_row (Prints n none k) v vs = refl
  value_row (Prints n (more e es) k) v vs = part_row e (Prints (suc n) es k) (v ∷ vs)
  value_row (Makes k) v vs = refl
  value_row (Imports k) v vs = refl

  left_same : (bs : Bindings) (ss : Stmts) (rs : List Round) (vs : List V) → row_of (settle_left bs ss rs vs) ≡ spot_row (Between (left bs ss) rs)
  left_same no_more ss rs vs = refl
  left_same (binding name absent bs) ss rs vs = refl
  left_same (binding name (plain e) bs) ss rs vs = part_row e (Uses (purposes.Sets name) (left bs ss) rs) vs
  left_same (binding name (awaited e) bs) ss rs vs = part_row e (Uses (purposes.Awaits (purposes.Sets name)) (left bs ss) rs) vs

  pub same_row : (s : Spot) (vs : List V) → row_of (settle s vs) ≡ spot_row s
  same_row (Begins e k) vs = part_row e k vs
  same_row (Has k) [] = refl
  same_row (Has k) (v ∷ vs) = value_row k v vs
  same_row (Between behind rs) vs = left_same behind.bindings behind.stmts rs vs
  same_row (Opens opening ss behind rs) vs = refl
  same_row (Handles caught handler behind rs) vs = refl

  -- ---- there are as many operands as it takes

  part_room : (e : Expr) (k : Kont) (vs : List V) → HasRoom k vs → SpotHasRoom (settle_part e k vs).spot (settle_part e k vs).operands
  part_room (x.Text s) k vs h = h
  part_room (x.Truth b) k vs h = h
  part_room x.Undefined k vs h = h
  part_room (x.Name name) k vs h = h
  part_room (x.Group e) k vs h = part_room e k vs h
  part_room (x.Or e es) k vs h = part_room e (Ors es k) vs h
  part_room (x.And e es) k vs h = part_room e (Ands es k) vs h
  part_room (x.Equal e cs) k vs h = part_room e (Equals cs k) vs h
  part_room (x.Sum e es) k vs h = part_room e (Sums es k) vs h
  part_room (x.Not e) k vs h = part_room e (Turns k) vs h
  part_room (x.Post e ls) k vs h = part_room e (Posts ls k) vs h
  part_room (x.Print none) k vs h = h
  part_room (x.Print (more e es)) k vs h = part_room e (Prints zero es k) vs h
  part_room x.EmptyError k vs h = h
  part_room (x.NewError e) k vs h = part_room e (Makes k) vs h
  part_room (x.Import e) k vs h = part_room e (Imports k) vs h
  part_room x.Url k vs h = h

  value_room : (k : Kont) (v : V) (vs : List V) → HasRoom k vs → SpotHasRoom (settle_value k v vs).spot (settle_value k v vs).operands
  value_room (Uses purpose behind rs) v vs h = h
  value_room (Ors none k) v vs h = value_room k v vs h
  value_room (Ors (more e es) k) v vs h = h
  value_room (Ands none k) v vs h = value_room k v vs h
  value_room (Ands (more e es) k) v vs h = h
  value_room (Equals last k) v vs h = value_room k v vs h
  value_room (Equals (compared alike e cs) k) v vs h = part_room e (Compares alike cs k) (v ∷ vs) h
  value_room (Compares alike cs k) v vs h = h
  value_room (Sums none k) v vs h = value_room k v vs h
  value_room (Sums (more e es) k) v vs h = part_room e (Adds es k) (v ∷ vs) h
  value_room (Adds es k) v vs h = h
  value_room (Turns k) v vs h = h
  value_room (Posts ends k) v vs h = value_room k v vs h
  value_room (Posts (member name ls) k) v vs h = h
  value_room (Posts (call none ls) k) v vs h = h
  value_room (Posts (call (more e es) ls) k) v vs h = part_room e (Passes zero es ls k) (v ∷ vs) h
  value_room (Passes n none ls k) v vs h = h
  value_room (Passes n (more e es) ls k) v vs h = part_room e (Passes (suc n) es ls k) (v ∷ vs) h
  value_room (Prints n none k) v vs h = h
  value_room (Prints n (more e es) k) v vs h = part_room e (Prints (suc n) es k) (v ∷ vs) h
  value_room (Makes k) v vs h = h
  value_room (Imports k) v vs h = h

  left_room : (bs : Bindings) (ss : Stmts) (rs : List Round) (vs : List V) → vs ≡ [] → SpotHasRoom (settle_left bs ss rs vs).spot (settle_left bs ss rs vs).operands
  left_room no_more ss rs vs h = h
  left_room (binding name absent bs) ss rs vs h = h
  left_room (binding name (plain e) bs) ss rs vs h = part_room e (Uses (purposes.Sets name) (left bs ss) rs) vs h
  left_room (binding name (awaited e) bs) ss rs vs h = part_room e (Uses (purposes.Awaits (purposes.Sets name)) (left bs ss) rs) vs h

  pub same_room : (s : Spot) (vs : List V) → SpotHasRoom s vs → SpotHasRoom (settle s vs).spot (settle s vs).operands
  same_room (Begins e k) vs h = part_room e k vs h
  same_room (Has k) [] h = absurd h
  same_room (Has k) (v ∷ vs) h = value_room k v vs h
  same_room (Between behind rs) vs h = left_room behind.bindings behind.stmts rs vs h
  same_room (Opens opening ss behind rs) vs h = h
  same_room (Handles caught handler behind rs) vs h = h

-- ---- its first operation is its own

module _ {V : Type 0} where
  part_own : (e : Expr) (k : Kont) (vs : List V) → IsOwn (settle_part e k vs).spot
  part_own (x.Text s) k vs = tt
  part_own (x.Truth b) k vs = tt
  part_own x.Undefined k vs = tt
  part_own (x.Name name) k vs = tt
  part_own (x.Group e) k vs = part_own e k vs
  part_own (x.Or e es) k vs = part_own e (Ors es k) vs
  part_own (x.And e es) k vs = part_own e (Ands es k) vs
  part_own (x.Equal e cs) k vs = part_own e (Equals cs k) vs
  part_own (x.Sum e es) k vs = part_own e (Sums es k) vs
  part_own (x.Not e) k vs = part_own e (Turns k) vs
  part_own (x.Post e ls) k vs = part_own e (Posts ls k) vs
  part_own (x.Print none) k vs = tt
  part_own (x.Print (more e es)) k vs = part_own e (Prints zero es k) vs
  part_own x.EmptyError k vs = tt
  part_own (x.NewError e) k vs = part_own e (Makes k) vs
  part_own (x.Import e) k vs = part_own e (Imports k) vs
  part_own x.Url k vs = tt

  value_own : (k : Kont) (v : V) (vs : List V) → IsOwn (settle_value k v vs).spot
  value_own (Uses purpose behind rs) v vs = tt
  value_own (Ors none k) v vs = value_own k v vs
  value_own (Ors (more e es) k) v vs = tt
  value_own (Ands none k) v vs = value_own k v vs
  value_own (Ands (more e es) k) v vs = tt
  value_own (Equals last k) v vs = value_own k v vs
  value_own (Equals (compared alike e cs) k) v vs = part_own e (Compares alike cs k) (v ∷ vs)
  value_own (Compares alike cs k) v vs = tt
  value_own (Sums none k) v vs = value_own k v vs
  value_own (Sums (more e es) k) v vs = part_own e (Adds es k) (v ∷ vs)
  value_own (Adds es k) v vs = tt
  value_own (Turns k) v vs = tt
  value_own (Posts ends k) v vs = value_own k v vs
  value_own (Posts (member name ls) k) v vs = tt
  value_own (Posts (call none ls) k) v vs = tt
  value_own (Posts (call (more e es) ls) k) v vs = part_own e (Passes zero es ls k) (v ∷ vs)
  value_own (Passes n none ls k) v vs = tt
  value_own (Passes n (more e es) ls k) v vs = part_own e (Passes (suc n) es ls k) (v ∷ vs)
  value_own (Prints n none k) v vs = tt
  value_own (Prints n (more e es) k) v vs = part_own e (Prints (suc n) es k) (v ∷ vs)
  value_own (Makes k) v vs = tt
  value_own (Imports k) v vs = tt

  left_own : (bs : Bindings) (ss : Stmts) (rs : List Round) (vs : List V) → IsOwn (settle_left bs ss rs vs).spot
  left_own no_more ss rs vs = tt
  left_own (binding name absent bs) ss rs vs = tt
  left_own (binding name (plain e) bs) ss rs vs = part_own e (Uses (purposes.Sets name) (left bs ss) rs) vs
  left_own (binding name (awaited e) bs) ss rs vs = part_own e (Uses (purposes.Awaits (purposes.Sets name)) (left bs ss) rs) vs

  pub own : (s : Spot) (vs : List V) → SpotHasRoom s vs → IsOwn (settle s vs).spot
  own (Begins e k) vs h = part_own e k vs
  own (Has k) [] h = absurd h
  own (Has k) (v ∷ vs) h = value_own k v vs
  own (Between behind rs) vs h = left_own behind.bindings behind.stmts rs vs
  own (Opens opening ss behind rs) vs h = tt
  own (Handles caught handler behind rs) vs h = tt

-- ---- what remains leads there

module _ {N I : Type 0} (same : N → N → Bool) (modules : I → Modules N) (begins : Importing N I) (m : N) (names : List (List (Option (Value N)))) (w : State N I) where
  abbrev V' : Type 0
  V' = Value N

  abbrev At : Stand V' → Rest V'
  At s = rest_at (values same) s.spot names s.operands

  abbrev To : Rest V' → Rest V' → Type 0
  To r s = Leads same modules begins m w r w s

  abbrev over : Kont → Inner N I
  over k = record { scopes = scopes_in (contexts (values same) (rounds_of k) names); state = w }

  -- one rewriting of a part, which leaves the state
  one : (k : Kont) (vs : List V') (e f : Term V') → HasRoom k vs → RewritesTerm same modules begins m (over k) e (Goes f) (over k) → To (rest_of (values same) k names vs e) (rest_of (values same) k names vs f)
  one k vs e f room h callers how after s =
      Segment.goes (On (Goes (rest_of (values same) k names vs f))) (outer_goes same modules begins m (contexts (values same) (rounds_of k) names) w (plug (values same) k vs e) (plug (values same) k vs f) (over k) refl (plugged.goes same modules begins m k vs (over k) (over k) e f room h)) refl s

  part_leads : (e : Expr) (k : Kont) (vs : List V') → To (rest_at (values same) (Begins e k) names vs) (At (settle_part e k vs))
  part_leads (x.Text s) k vs callers how after h = h
  part_leads (x.Truth b) k vs callers how after h = h
  part_leads x.Undefined k vs callers how after h = h
  part_leads (x.Name name) k vs callers how after h = h
  part_leads (x.Group e) k vs callers how after h = part_leads e k vs callers how after h
  part_leads (x.Or e es) k vs callers how after h = part_leads e (Ors es k) vs callers how after h
  part_leads (x.And e es) k vs callers how after h = part_leads e (Ands es k) vs callers how after h
  part_leads (x.Equal e cs) k vs callers how after h = part_leads e (Equals cs k) vs callers how after h
  part_leads (x.Sum e es) k vs callers how after h = part_leads e (Sums es k) vs callers how after h
  part_leads (x.Not e) k vs callers how after h = part_leads e (Turns k) vs callers how after h
  part_leads (x.Post e ls) k vs callers how after h = part_leads e (Posts ls k) vs callers how after h
  part_leads (x.Print none) k vs callers how after h = h
  part_leads (x.Print (more e es)) k vs callers how after h = part_leads e (Prints zero es k) vs callers how after h
  part_leads x.EmptyError k vs callers how after h = h
  part_leads (x.NewError e) k vs callers how after h = part_leads e (Makes k) vs callers how after h
  part_leads (x.Import e) k vs callers how after h = part_leads e (Imports k) vs callers how after h
  part_leads x.Url k vs callers how after h = h

  value_leads : (k : Kont) (v : V') (vs : List V') → HasRoom k vs → To (rest_of (values same) k names vs (Val v)) (At (settle_value k v vs))
  value_leads (Uses purpose behind rs) v vs room callers how after h = h
  value_leads (Ors none k) v vs room callers how after h = one k vs (Or (Val v) nothing_more) (Val v) room or callers how after (value_leads k v vs room callers how after h)
  value_leads (Ors (more e es) k) v vs room callers how after h = h
  value_leads (Ands none k) v vs room callers how after h = one k vs (And (Val v) nothing_more) (Val v) room and callers how after (value_leads k v vs room callers how after h)
  value_leads (Ands (more e es) k) v vs room callers how after h = h
  value_leads (Equals last k) v vs room callers how after h = one k vs (Equal (Val v) no_comparison) (Val v) room equal_end callers how after (value_leads k v vs room callers how after h)
  value_leads (Equals (compared alike e cs) k) v vs room callers how after h = part_leads e (Compares alike cs k) (v ∷ vs) callers how after h
  value_leads (Compares alike cs k) v vs room callers how after h = h
  value_leads (Sums none k) v vs room callers how after h = one k vs (Sum (Val v) nothing_more) (Val v) room sum_end callers how after (value_leads k v vs room callers how after h)
  value_leads (Sums (more e es) k) v vs room callers how after h = part_leads e (Adds es k) (v ∷ vs) callers how after h
  value_leads (Adds es k) v vs room callers how after h = h
  value_leads (Turns k) v vs room callers how after h = h
  value_leads (Posts ends k) v vs room callers how after h = one k vs (Post (Val v) no_links) (Val v) room post_end callers how after (value_leads k v vs room callers how after h)
  value_leads (Posts (member name ls) k) v vs room callers how after h = h
  value_leads (Posts (call none ls) k) v vs room callers how after h = h
  value_leads (Posts (call (more e es) ls) k) v vs room callers how after h = part_leads e (Passes zero es ls k) (v ∷ vs) callers how after h
  value_leads (Passes n none ls k) v vs room callers how after h = h
  value_leads (Passes n (more e es) ls k) v vs room callers how after h = part_leads e (Passes (suc n) es ls k) (v ∷ vs) callers how after h
  value_leads (Prints n none k) v vs room callers how after h = h
  value_leads (Prints n (more e es) k) v vs room callers how after h = part_leads e (Prints (suc n) es k) (v ∷ vs) callers how after h
  value_leads (Makes k) v vs room callers how after h = h
  value_leads (Imports k) v vs room callers how after h = h

  left_leads : (bs : Bindings) (ss : Stmts) (rs : List Round) (vs : List V') → To (rest_at (values same) (Between (left bs ss) rs) names vs) (At (settle_left bs ss rs vs))
  left_leads no_more ss rs vs callers how after h = h
  left_leads (binding name absent bs) ss rs vs callers how after h = h
  left_leads (binding name (plain e) bs) ss rs vs callers how after h = part_leads e (Uses (purposes.Sets name) (left bs ss) rs) vs callers how after h
  left_leads (binding name (awaited e) bs) ss rs vs callers how after h = part_leads e (Uses (purposes.Awaits (purposes.Sets name)) (left bs ss) rs) vs callers how after h

  pub leads : (s : Spot) (vs : List V') → SpotHasRoom s vs → To (rest_at (values same) s names vs) (At (settle s vs))
  leads (Begins e k) vs room callers how after h = part_leads e k vs callers how after h
  leads (Has k) [] room callers how after h = absurd room
  leads (Has k) (v ∷ vs) room callers how after h = value_leads k v vs room callers how after h
  leads (Between behind rs) vs room callers how after h = left_leads behind.bindings behind.stmts rs vs callers how after h
  leads (Opens opening ss behind rs) vs room callers how after h = h
  leads (Handles caught handler behind rs) vs room callers how after h = h
