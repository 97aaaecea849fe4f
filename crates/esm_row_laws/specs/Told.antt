-- Which place it is, told by its first operation and those behind it.
use Rattle.std.specs.Prelude.{◌≡◌, ℕ, zero, suc, List, [], ◌∷◌, length, Option, Some, None}
use Rattle.esm_tree.specs.Syntax as x
use Rattle.esm_tree.specs.Syntax.{Expr, Exprs, none, more, Compared, last, Links, ends, member, call, Bindings, no_more, binding, Stmt, Stmts, nothing, first}
use Rattle.esm_env.specs.Declarations.{Declaration, declared_in}
use Rattle.esm_rewriting.specs.Rest.{Use as Purpose}
use Rattle.esm_rewriting.specs.Rest.{Use as purposes}
use Rattle.esm_rows.specs.Rows.{Row, Found, found_in, found_here, expr_row, stmt_row, stmts_row, block_row}
use Rattle.esm_rows.specs.Rows.{Operation as o}
use Rattle.esm_row_laws.specs.Spots.{Left, left, Round, Own, Inner, First, Tried, names_of, Kont, Uses, Ors, Ands, Equals, Compares, Sums, Adds, Turns, Posts, Passes, Prints, Makes, Imports, kont_names, Opening, Plainly, Firstly, Trying, opened, Spot, Begins, Has, Between, Opens, Handles, whole_row, handled_row, left_row, kont_row}

-- ---- the first operation is its own

abbrev pub IsLeaf : Expr → Type 0
IsLeaf (x.Text s) = Unit {0}
IsLeaf (x.Truth b) = Unit {0}
IsLeaf x.Undefined = Unit {0}
IsLeaf (x.Name name) = Unit {0}
IsLeaf (x.Group e) = ⊥
IsLeaf (x.Or e es) = ⊥
IsLeaf (x.And e es) = ⊥
IsLeaf (x.Equal e cs) = ⊥
IsLeaf (x.Sum e es) = ⊥
IsLeaf (x.Not e) = ⊥
IsLeaf (x.Post e ls) = ⊥
IsLeaf (x.Print none) = Unit {0}
IsLeaf (x.Print (more e es)) = ⊥
IsLeaf x.EmptyError = ⊥
IsLeaf (x.NewError e) = ⊥
IsLeaf (x.Import e) = ⊥
IsLeaf x.Url = Unit {0}

abbrev pub Takes : Kont → Type 0
Takes (Uses purpose behind rs) = Unit {0}
Takes (Ors none k) = ⊥
Takes (Ors (more e es) k) = Unit {0}
Takes (Ands none k) = ⊥
Takes (Ands (more e es) k) = Unit {0}
Takes (Equals cs k) = ⊥
Takes (Compares alike cs k) = Unit {0}
Takes (Sums es k) = ⊥
Takes (Adds es k) = Unit {0}
Takes (Turns k) = Unit {0}
Takes (Posts ends k) = ⊥
Takes (Posts (member name ls) k) = Unit {0}
Takes (Posts (call none ls) k) = Unit {0}
Takes (Posts (call (more e es) ls) k) = ⊥
Takes (Passes n none ls k) = Unit {0}
Takes (Passes n (more e es) ls k) = ⊥
Takes (Prints n none k) = Unit {0}
Takes (Prints n (more e es) k) = ⊥
Takes (Makes k) = Unit {0}
Takes (Imports k) = Unit {0}

abbrev pub IsBehind : Bindings → Type 0
IsBehind no_more = Unit {0}
IsBehind (binding name value bs) = ⊥

abbrev pub IsOwn : Spot → Type 0
IsOwn (Begins e k) = IsLeaf e
IsOwn (Has k) = Takes k
IsOwn (Between behind rs) = IsBehind behind.bindings
IsOwn (Opens opening ss behind rs) = Unit {0}
IsOwn (Handles caught handler behind rs) = Unit {0}

-- ---- what an operation tells

-- a call of so many arguments, behind the head or behind the last argument
pub data CallsAt (ls : Links) (k : Kont) : ℕ → Spot → Type 0 where
  at_head : CallsAt ls k zero (Has (Posts (call none ls) k))
  at_last : (n : ℕ) → CallsAt ls k (suc n) (Has (Passes n none ls k))

pub data PrintsAt (k : Kont) : ℕ → Spot → Type 0 where
  without : PrintsAt k zero (Begins (x.Print none) k)
  at_last_one : (n : ℕ) → PrintsAt k (suc n) (Has (Prints n none k))

-- the end of a block with so many names, behind which so many operations are left
pub data LeavesAt (ds : List Declaration) (behind : Left) (rs : List Round) : Spot → Row → Type 0 where
  of_block : LeavesAt ds behind rs (Between (left no_more nothing) (Inner ds behind ∷ rs)) (left_row behind rs)
  of_first : (others : Stmts) → LeavesAt ds behind rs (Between (left no_more nothing) (First ds others behind ∷ rs))
      (whole_row others (names_of rs) (left_row behind rs))

pub data EndsAt : Spot → Type 0 where
  of_body : EndsAt (Between (left no_more nothing) [])
  of_function : (ds : List Declaration) (rs : List Round) → EndsAt (Between (left no_more nothing) (Own ds ∷ rs))

-- a block without a handler begins
pub data EntersAt (ss : Stmts) (behind : Left) (rs : List Round) : Opening → Row → Type 0 where
  plainly : EntersAt ss behind rs Plainly (left_row behind rs)
  firstly : (others : Stmts) → EntersAt ss behind rs (Firstly others) (whole_row others (names_of rs) (left_row behind rs))

-- these operations are behind the first of this place
abbrev pub Told : o → Row → Spot → Type 0
Told o.Step c s = (st : Stmt) × (ss : Stmts) × (rs : List Round) × (s ≡ Between (left no_more (first st ss)) rs)
    × (stmt_row (names_of rs) st (left_row (left no_more ss) rs) ≡ c)
Told (o.Text t) c s = (k : Kont) × (s ≡ Begins (x.Text t) k) × (kont_row k ≡ c)
Told (o.Truth b) c s = (k : Kont) × (s ≡ Begins (x.Truth b) k) × (kont_row k ≡ c)
Told o.Undefined c s = (k : Kont) × (s ≡ Begins x.Undefined k) × (kont_row k ≡ c)
Told o.Url c s = (k : Kont) × (s ≡ Begins x.Url k) × (kont_row k ≡ c)
Told (o.Local place name) c s = (k : Kont) × (f : Found) × (s ≡ Begins (x.Name name) k) × (found_in (kont_names k) name ≡ Some f)
    × (f.place ≡ place) × (kont_row k ≡ c)
Told (o.Name name) c s = (k : Kont) × (s ≡ Begins (x.Name name) k) × (found_in (kont_names k) name ≡ None) × (kont_row k ≡ c)
Told (o.OrElse n) c s = (e : Expr) × (es : Exprs) × (k : Kont) × (s ≡ Has (Ors (more e es) k)) × (length (kont_row k) ≡ n)
    × (expr_row (kont_names k) e (kont_row (Ors es k)) ≡ c)
Told (o.AndAlso n) c s = (e : Expr) × (es : Exprs) × (k : Kont) × (s ≡ Has (Ands (more e es) k)) × (length (kont_row k) ≡ n)
    × (expr_row (kont_names k) e (kont_row (Ands es k)) ≡ c)
Told (o.Compare alike) c s = (cs : Compared) × (k : Kont) × (s ≡ Has (Compares alike cs k)) × (kont_row (Equals cs k) ≡ c)
Told o.Add c s = (es : Exprs) × (k : Kont) × (s ≡ Has (Adds es k)) × (kont_row (Sums es k) ≡ c)
Told o.Not c s = (k : Kont) × (s ≡ Has (Turns k)) × (kont_row k ≡ c)
Told (o.Member name) c s = (ls : Links) × (k : Kont) × (s ≡ Has (Posts (member name ls) k)) × (kont_row (Posts ls k) ≡ c)
Told (o.Call n) c s = (ls : Links) × (k : Kont) × CallsAt ls k n s × (kont_row (Posts ls k) ≡ c)
Told (o.Print n) c s = (k : Kont) × PrintsAt k n s × (kont_row k ≡ c)
Told o.NewError c s = (k : Kont) × (s ≡ Has (Makes k)) × (kont_row k ≡ c)
Told o.Import c s = (k : Kont) × (s ≡ Has (Imports k)) × (kont_row k ≡ c)
Told o.Drop c s = (l : Left) × (rs : List Round) × (s ≡ Has (Uses purposes.Drops l rs)) × (left_row l rs ≡ c)
Told (o.SetLocal place) c s = (name : List ℕ) × (l : Left) × (rs : List Round) × (f : Found) × (s ≡ Has (Uses (purposes.Sets name) l rs))
    × (found_here (names_of rs) name ≡ Some f) × (f.place ≡ place) × (left_row l rs ≡ c)
Told (o.SetName name) c s = (l : Left) × (rs : List Round) × (s ≡ Has (Uses (purposes.Sets name) l rs))
    × (found_here (names_of rs) name ≡ None) × (left_row l rs ≡ c)
Told (o.WriteLocal place name constant) c s = (l : Left) × (rs : List Round) × (f : Found) × (s ≡ Has (Uses (purposes.Writes name) l rs))
    × (found_in (names_of rs) name ≡ Some f) × (f.place ≡ place) × (f.constant ≡ constant) × (left_row l rs ≡ c)
Told (o.WriteName name) c s = (l : Left) × (rs : List Round) × (s ≡ Has (Uses (purposes.Writes name) l rs))
    × (found_in (names_of rs) name ≡ None) × (left_row l rs ≡ c)
Told o.Throw c s = (l : Left) × (rs : List Round) × (s ≡ Has (Uses purposes.Throws l rs)) × (left_row l rs ≡ c)
Told o.Return c s = (l : Left) × (rs : List Round) × (s ≡ Has (Uses purposes.Returns l rs)) × (left_row l rs ≡ c)
Told o.PrintAwaited c s = (l : Left) × (rs : List Round) × (s ≡ Has (Uses purposes.Prints l rs)) × (left_row l rs ≡ c)
Told o.Await c s = (purpose : Purpose) × (l : Left) × (rs : List Round) × (s ≡ Has (Uses (purposes.Awaits purpose) l rs))
    × (kont_row (Uses purpose l rs) ≡ c)
Told (o.Choose n) c s = (ss : Stmts) × (others : Stmts) × (l : Left) × (rs : List Round)
    × (s ≡ Has (Uses (purposes.Chooses ss others) l rs))
    × (length (whole_row others (names_of rs) (left_row l rs)) ≡ n)
    × (block_row (declared_in ss) (stmts_row (declared_in ss ∷ names_of rs) ss) (length (left_row l rs))
    (whole_row others (names_of rs) (left_row l rs)) ≡ c)
Told (o.Enter n) c s = (opening : Opening) × (ss : Stmts) × (l : Left) × (rs : List Round) × (behind : Row)
    × EntersAt ss l rs opening behind
    × (s ≡ Opens opening ss l rs) × (length (declared_in ss) ≡ n)
    × (left_row (left no_more ss) (opened opening (declared_in ss) l ∷ rs) ≡ c)
Told (o.Leave n target) c s = (ds : List Declaration) × (l : Left) × (rs : List Round) × LeavesAt ds l rs s c × (length ds ≡ n)
    × (length (left_row l rs) ≡ target)
Told (o.Try n target) c s = (caught : Option (List ℕ)) × (handler : Stmts) × (ss : Stmts) × (l : Left) × (rs : List Round)
    × (s ≡ Opens (Trying caught handler) ss l rs) × (length (declared_in ss) ≡ n)
    × (length (handled_row caught handler (names_of rs) (left_row l rs)) ≡ target)
    × (left_row (left no_more ss) (Tried (declared_in ss) caught handler l ∷ rs) ≡ c)
Told (o.EndTry n target) c s = (ds : List Declaration) × (caught : Option (List ℕ)) × (handler : Stmts) × (l : Left) × (rs : List Round)
    × (s ≡ Between (left no_more nothing) (Tried ds caught handler l ∷ rs)) × (length ds ≡ n) × (length (left_row l rs) ≡ target)
    × (handled_row caught handler (names_of rs) (left_row l rs) ≡ c)
Told (o.Caught named n) c s = (caught : Option (List ℕ)) × (handler : Stmts) × (l : Left) × (rs : List Round)
    × (s ≡ Handles caught handler l rs) × (o.Caught named n ∷ c ≡ handled_row caught handler (names_of rs) (left_row l rs))
Told o.End c s = EndsAt s
