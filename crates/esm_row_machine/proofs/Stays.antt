-- A place keeps its operands and its blocks where it is brought to one whose first operation is its own.
use Rattle.std.proofs.Common.{◌≡◌, zero, suc, List, [], ◌∷◌, refl}
use Rattle.esm_tree.specs.Syntax as x
use Rattle.esm_tree.specs.Syntax.{Expr, none, more, last, compared, ends, member, call, absent, plain, awaited, Bindings, no_more, binding, Stmts}
use Rattle.esm_rewriting.specs.Rest.{Use as purposes}
use Rattle.esm_row_laws.specs.Spots.{left, Round, Kont, Uses, Ors, Ands, Equals, Compares, Sums, Adds, Turns, Posts, Passes, Prints, Makes, Imports, rounds_of, Spot, Begins, Has, Between, Opens, Handles}
use Rattle.esm_row_laws.specs.Settled.{settle_part, settle_value, settle_left, settle}
use Rattle.esm_row_machine.specs.Functions.{rounds_at}

module _ {V : Type 0} where
  part_operands : (e : Expr) (k : Kont) (vs : List V) → (settle_part e k vs).operands ≡ vs
  part_operands (x.Text s) k vs = refl
  part_operands (x.Truth b) k vs = refl
  part_operands x.Undefined k vs = refl
  part_operands (x.Name name) k vs = refl
  part_operands (x.Group e) k vs = part_operands e k vs
  part_operands (x.Or e es) k vs = part_operands e (Ors es k) vs
  part_operands (x.And e es) k vs = part_operands e (Ands es k) vs
  part_operands (x.Equal e cs) k vs = part_operands e (Equals cs k) vs
  part_operands (x.Sum e es) k vs = part_operands e (Sums es k) vs
  part_operands (x.Not e) k vs = part_operands e (Turns k) vs
  part_operands (x.Post e ls) k vs = part_operands e (Posts ls k) vs
  part_operands (x.Print none) k vs = refl
  part_operands (x.Print (more e es)) k vs = part_operands e (Prints zero es k) vs
  part_operands x.EmptyError k vs = refl
  part_operands (x.NewError e) k vs = part_operands e (Makes k) vs
  part_operands (x.Import e) k vs = part_operands e (Imports k) vs
  part_operands x.Url k vs = refl

  value_operands : (k : Kont) (v : V) (vs : List V) → (settle_value k v vs).operands ≡ v ∷ vs
  value_operands (Uses purpose behind rs) v vs = refl
  value_operands (Ors none k) v vs = value_operands k v vs
  value_operands (Ors (more e es) k) v vs = refl
  value_operands (Ands none k) v vs = value_operands k v vs
  value_operands (Ands (more e es) k) v vs = refl
  value_operands (Equals last k) v vs = value_operands k v vs
  value_operands (Equals (compared alike e cs) k) v vs = part_operands e (Compares alike cs k) (v ∷ vs)
  value_operands (Compares alike cs k) v vs = refl
  value_operands (Sums none k) v vs = value_operands k v vs
  value_operands (Sums (more e es) k) v vs = part_operands e (Adds es k) (v ∷ vs)
  value_operands (Adds es k) v vs = refl
  value_operands (Turns k) v vs = refl
  value_operands (Posts ends k) v vs = value_operands k v vs
  value_operands (Posts (member name ls) k) v vs = refl
  value_operands (Posts (call none ls) k) v vs = refl
  value_operands (Posts (call (more e es) ls) k) v vs = part_operands e (Passes zero es ls k) (v ∷ vs)
  value_operands (Passes n none ls k) v vs = refl
  value_operands (Passes n (more e es) ls k) v vs = part_operands e (Passes (suc n) es ls k) (v ∷ vs)
  value_operands (Prints n none k) v vs = refl
  value_operands (Prints n (more e es) k) v vs = part_operands e (Prints (suc n) es k) (v ∷ vs)
  value_operands (Makes k) v vs = refl
  value_operands (Imports k) v vs = refl

  left_operands : (bs : Bindings) (ss : Stmts) (rs : List Round) (vs : List V) → (settle_left bs ss rs vs).operands ≡ vs
  left_operands no_more ss rs vs = refl
  left_operands (binding name absent bs) ss rs vs = refl
  left_operands (binding name (plain e) bs) ss rs vs = part_operands e (Uses (purposes.Sets name) (left bs ss) rs) vs
  left_operands (binding name (awaited e) bs) ss rs vs = part_operands e (Uses (purposes.Awaits (purposes.Sets name)) (left bs ss) rs) vs

  pub same_operands : (s : Spot) (vs : List V) → (settle s vs).operands ≡ vs
  same_operands (Begins e k) vs = part_operands e k vs
  same_operands (Has k) [] = refl
  same_operands (Has k) (v ∷ vs) = value_operands k v vs
  same_operands (Between l rs) vs = left_operands l.bindings l.stmts rs vs
  same_operands (Opens opening ss l rs) vs = refl
  same_operands (Handles caught handler l rs) vs = refl

  part_rounds : (e : Expr) (k : Kont) (vs : List V) → rounds_at (settle_part e k vs).spot ≡ rounds_of k
  part_rounds (x.Text s) k vs = refl
  part_rounds (x.Truth b) k vs = refl
  part_rounds x.Undefined k vs = refl
  part_rounds (x.Name name) k vs = refl
  part_rounds (x.Group e) k vs = part_rounds e k vs
  part_rounds (x.Or e es) k vs = part_rounds e (Ors es k) vs
  part_rounds (x.And e es) k vs = part_rounds e (Ands es k) vs
  part_rounds (x.Equal e cs) k vs = part_rounds e (Equals cs k) vs
  part_rounds (x.Sum e es) k vs = part_rounds e (Sums es k) vs
  part_rounds (x.Not e) k vs = part_rounds e (Turns k) vs
  part_rounds (x.Post e ls) k vs = part_rounds e (Posts ls k) vs
  part_rounds (x.Print none) k vs = refl
  part_rounds (x.Print (more e es)) k vs = part_rounds e (Prints zero es k) vs
  part_rounds x.EmptyError k vs = refl
  part_rounds (x.NewError e) k vs = part_rounds e (Makes k) vs
  part_rounds (x.Import e) k vs = part_rounds e (Imports k) vs
  part_rounds x.Url k vs = refl

  value_rounds : (k : Kont) (v : V) (vs : List V) → rounds_at (settle_value k v vs).spot ≡ rounds_of k
  value_rounds (Uses purpose behind rs) v vs = refl
  value_rounds (Ors none k) v vs = value_rounds k v vs
  value_rounds (Ors (more e es) k) v vs = refl
  value_rounds (Ands none k) v vs = value_rounds k v vs
  value_rounds (Ands (more e es) k) v vs = refl
  value_rounds (Equals last k) v vs = value_rounds k v vs
  value_rounds (Equals (compared alike e cs) k) v vs = part_rounds e (Compares alike cs k) (v ∷ vs)
  value_rounds (Compares alike cs k) v vs = refl
  value_rounds (Sums none k) v vs = value_rounds k v vs
  value_rounds (Sums (more e es) k) v vs = part_rounds e (Adds es k) (v ∷ vs)
  value_rounds (Adds es k) v vs = refl
  value_rounds (Turns k) v vs = refl
  value_rounds (Posts ends k) v vs = value_rounds k v vs
  value_rounds (Posts (member name ls) k) v vs = refl
  value_rounds (Posts (call none ls) k) v vs = refl
  value_rounds (Posts (call (more e es) ls) k) v vs = part_rounds e (Passes zero es ls k) (v ∷ vs)
  value_rounds (Passes n none ls k) v vs = refl
  value_rounds (Passes n (more e es) ls k) v vs = part_rounds e (Passes (suc n) es ls k) (v ∷ vs)
  value_rounds (Prints n none k) v vs = refl
  value_rounds (Prints n (more e es) k) v vs = part_rounds e (Prints (suc n) es k) (v ∷ vs)
  value_rounds (Makes k) v vs = refl
  value_rounds (Imports k) v vs = refl

  left_rounds : (bs : Bindings) (ss : Stmts) (rs : List Round) (vs : List V) → rounds_at (settle_left bs ss rs vs).spot ≡ rs
  left_rounds no_more ss rs vs = refl
  left_rounds (binding name absent bs) ss rs vs = refl
  left_rounds (binding name (plain e) bs) ss rs vs = part_rounds e (Uses (purposes.Sets name) (left bs ss) rs) vs
  left_rounds (binding name (awaited e) bs) ss rs vs = part_rounds e (Uses (purposes.Awaits (purposes.Sets name)) (left bs ss) rs) vs

  pub same_rounds : (s : Spot) (vs : List V) → rounds_at (settle s vs).spot ≡ rounds_at s
  same_rounds (Begins e k) vs = part_rounds e k vs
  same_rounds (Has k) [] = refl
  same_rounds (Has k) (v ∷ vs) = value_rounds k v vs
  same_rounds (Between l rs) vs = left_rounds l.bindings l.stmts rs vs
  same_rounds (Opens opening ss l rs) vs = refl
  same_rounds (Handles caught handler l rs) vs = refl
