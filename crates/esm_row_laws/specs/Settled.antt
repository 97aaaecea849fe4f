-- A place whose first operation isn't its own, brought to the one whose it is.
use Rattle.std.specs.Prelude.{zero, suc, List, [], ◌∷◌}
use Rattle.esm_tree.specs.Syntax as x
use Rattle.esm_tree.specs.Syntax.{Expr, none, more, last, compared, ends, member, call, absent, plain, awaited, Bindings, no_more, binding, Stmts}
use Rattle.esm_rewriting.specs.Rest.{Use as purposes}
use Rattle.esm_row_laws.specs.Spots.{left, Round, Kont, Uses, Ors, Ands, Equals, Compares, Sums, Adds, Turns, Posts, Passes, Prints, Makes, Imports, Spot, Begins, Has, Between, Opens, Handles}

-- a place and the operands there
pub record Stand (V : Type 0) : Type 0 where
  pub spot : Spot
  pub operands : List V

module _ {V : Type 0} where
  abbrev pub stand : Spot → List V → Stand V
  stand s vs = record { spot = s; operands = vs }

  -- an expression begins with its first part
  abbrev pub settle_part : Expr → Kont → List V → Stand V
  settle_part (x.Text s) k vs = stand (Begins (x.Text s) k) vs
  settle_part (x.Truth b) k vs = stand (Begins (x.Truth b) k) vs
  settle_part x.Undefined k vs = stand (Begins x.Undefined k) vs
  settle_part (x.Name name) k vs = stand (Begins (x.Name name) k) vs
  settle_part (x.Group e) k vs = settle_part e k vs
  settle_part (x.Or e es) k vs = settle_part e (Ors es k) vs
  settle_part (x.And e es) k vs = settle_part e (Ands es k) vs
  settle_part (x.Equal e cs) k vs = settle_part e (Equals cs k) vs
  settle_part (x.Sum e es) k vs = settle_part e (Sums es k) vs
  settle_part (x.Not e) k vs = settle_part e (Turns k) vs
  settle_part (x.Post e ls) k vs = settle_part e (Posts ls k) vs
  settle_part (x.Print none) k vs = stand (Begins (x.Print none) k) vs
  settle_part (x.Print (more e es)) k vs = settle_part e (Prints zero es k) vs
  settle_part x.EmptyError k vs = stand (Begins x.Undefined (Makes k)) vs
  settle_part (x.NewError e) k vs = settle_part e (Makes k) vs
  settle_part (x.Import e) k vs = settle_part e (Imports k) vs
  settle_part x.Url k vs = stand (Begins x.Url k) vs

  -- behind a value, what has no further part is over, and a further part begins
  abbrev pub settle_value : Kont → V → List V → Stand V
  settle_value (Uses purpose behind rs) v vs = stand (Has (Uses purpose behind rs)) (v ∷ vs)
  settle_value (Ors none k) v vs = settle_value k v vs
  settle_value (Ors (more e es) k) v vs = stand (Has (Ors (more e es) k)) (v ∷ vs)
  settle_value (Ands none k) v vs = settle_value k v vs
  settle_value (Ands (more e es) k) v vs = stand (Has (Ands (more e es) k)) (v ∷ vs)
  settle_value (Equals last k) v vs = settle_value k v vs
  settle_value (Equals (compared alike e cs) k) v vs = settle_part e (Compares alike cs k) (v ∷ vs)
  settle_value (Compares alike cs k) v vs = stand (Has (Compares alike cs k)) (v ∷ vs)
  settle_value (Sums none k) v vs = settle_value k v vs
  settle_value (Sums (more e es) k) v vs = settle_part e (Adds es k) (v ∷ vs)
  settle_value (Adds es k) v vs = stand (Has (Adds es k)) (v ∷ vs)
  settle_value (Turns k) v vs = stand (Has (Turns k)) (v ∷ vs)
  settle_value (Posts ends k) v vs = settle_value k v vs
  settle_value (Posts (member name ls) k) v vs = stand (Has (Posts (member name ls) k)) (v ∷ vs)
  settle_value (Posts (call none ls) k) v vs = stand (Has (Posts (call none ls) k)) (v ∷ vs)
  settle_value (Posts (call (more e es) ls) k) v vs = settle_part e (Passes zero es ls k) (v ∷ vs)
  settle_value (Passes n none ls k) v vs = stand (Has (Passes n none ls k)) (v ∷ vs)
  settle_value (Passes n (more e es) ls k) v vs = settle_part e (Passes (suc n) es ls k) (v ∷ vs)
  settle_value (Prints n none k) v vs = stand (Has (Prints n none k)) (v ∷ vs)
  settle_value (Prints n (more e es) k) v vs = settle_part e (Prints (suc n) es k) (v ∷ vs)
  settle_value (Makes k) v vs = stand (Has (Makes k)) (v ∷ vs)
  settle_value (Imports k) v vs = stand (Has (Imports k)) (v ∷ vs)

  abbrev pub settle_left : Bindings → Stmts → List Round → List V → Stand V
  settle_left no_more ss rs vs = stand (Between (left no_more ss) rs) vs
  settle_left (binding name absent bs) ss rs vs = stand (Begins x.Undefined (Uses (purposes.Sets name) (left bs ss) rs)) vs
  settle_left (binding name (plain e) bs) ss rs vs = settle_part e (Uses (purposes.Sets name) (left bs ss) rs) vs
  settle_left (binding name (awaited e) bs) ss rs vs = settle_part e (Uses (purposes.Awaits (purposes.Sets name)) (left bs ss) rs) vs

  abbrev pub settle : Spot → List V → Stand V
  settle (Begins e k) vs = settle_part e k vs
  settle (Has k) [] = stand (Has k) []
  settle (Has k) (v ∷ vs) = settle_value k v vs
  settle (Between behind rs) vs = settle_left behind.bindings behind.stmts rs vs
  settle (Opens opening ss behind rs) vs = stand (Opens opening ss behind rs) vs
  settle (Handles caught handler behind rs) vs = stand (Handles caught handler behind rs) vs
