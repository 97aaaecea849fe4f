-- Places in the row of a function: where its code is, and which operations are left there.
use Rattle.std.specs.Prelude.{ℕ, suc, Bool, List, [], ◌∷◌, ◌++◌, length, map, Option}
use Rattle.esm_tree.specs.Syntax.{Expr, Exprs, Compared, Links, Bindings, no_more, Stmts, nothing}
use Rattle.esm_env.specs.Declarations.{Declaration, FunctionCode, declared_in}
use Rattle.esm_rewriting.specs.Rest.{Use as Purpose}
use Rattle.esm_rewriting.specs.Rest.{Use as purposes}
use Rattle.esm_rows.specs.Rows.{Row, Names, among, found_here, found_in, write_by, set_by, expr_row, exprs_row, ors_row, ands_row, compared_row, sums_row, links_row, bindings_row, stmts_row, block_row, chosen_row, handler_row, try_row, caught_names, call_names}
use Rattle.esm_rows.specs.Rows.{Operation as o}

-- what is behind a place in its block: bindings of a declaration, then statements
pub record Left : Type 0 where
  pub bindings : Bindings
  pub stmts : Stmts

abbrev pub left : Bindings → Stmts → Left
left bs ss = record { bindings = bs; stmts = ss }

-- a block round a place, with its names and what is behind it in the block outside
pub data Round : Type 0 where
  -- that of the function, behind which nothing is
  Own : (ds : List Declaration) → Round
  Inner : (ds : List Declaration) (behind : Left) → Round
  -- the first of two of an `if`, whose row stands before that of the other one
  First : (ds : List Declaration) (others : Stmts) (behind : Left) → Round
  -- the block of a `try`
  Tried : (ds : List Declaration) (caught : Option (List ℕ)) (handler : Stmts) (behind : Left) → Round

abbrev pub round_names : Round → List Declaration
round_names (Own ds) = ds
round_names (Inner ds behind) = ds
round_names (First ds others behind) = ds
round_names (Tried ds caught handler behind) = ds

abbrev pub names_of : List Round → Names
names_of rs = map round_names rs

-- what becomes of the value of a part. Where it says so, values stand below it among the operands
pub data Kont : Type 0 where
  -- it is that of a statement's expression
  Uses : (purpose : Purpose) (behind : Left) (rounds : List Round) → Kont
  Ors : (es : Exprs) (k : Kont) → Kont
  Ands : (es : Exprs) (k : Kont) → Kont
  -- it is a left side, or a right side, whose left side is below
  Equals : (cs : Compared) (k : Kont) → Kont
  Compares : (alike : Bool) (cs : Compared) (k : Kont) → Kont
  -- it is the first summand, or a further one, with the sum so far below
  Sums : (es : Exprs) (k : Kont) → Kont
  Adds : (es : Exprs) (k : Kont) → Kont
  Turns : (k : Kont) → Kont
  -- it is a head
  Posts : (ls : Links) (k : Kont) → Kont
  -- it is an argument, with the callee and so many arguments below
  Passes : (count : ℕ) (es : Exprs) (ls : Links) (k : Kont) → Kont
  -- it is printed, with so many values below
  Prints : (count : ℕ) (es : Exprs) (k : Kont) → Kont
  Makes : (k : Kont) → Kont
  Imports : (k : Kont) → Kont

abbrev pub rounds_of : Kont → List Round
rounds_of (Uses purpose behind rounds) = rounds
rounds_of (Ors es k) = rounds_of k
rounds_of (Ands es k) = rounds_of k
rounds_of (Equals cs k) = rounds_of k
rounds_of (Compares alike cs k) = rounds_of k
rounds_of (Sums es k) = rounds_of k
rounds_of (Adds es k) = rounds_of k
rounds_of (Turns k) = rounds_of k
rounds_of (Posts ls k) = rounds_of k
rounds_of (Passes n es ls k) = rounds_of k
rounds_of (Prints n es k) = rounds_of k
rounds_of (Makes k) = rounds_of k
rounds_of (Imports k) = rounds_of k

abbrev pub kont_names : Kont → Names
kont_names k = names_of (rounds_of k)

-- what a block begins as
pub data Opening : Type 0 where
  Plainly : Opening
  -- the first of two of an `if`
  Firstly : (others : Stmts) → Opening
  -- that of a `try`
  Trying : (caught : Option (List ℕ)) (handler : Stmts) → Opening

abbrev pub opened : Opening → List Declaration → Left → Round
opened Plainly ds behind = Inner ds behind
opened (Firstly others) ds behind = First ds others behind
opened (Trying caught handler) ds behind = Tried ds caught handler behind

pub data Spot : Type 0 where
  -- a part begins
  Begins : (e : Expr) (k : Kont) → Spot
  -- its value is on top
  Has : (k : Kont) → Spot
  -- what is behind in the block goes on
  Between : (behind : Left) (rounds : List Round) → Spot
  -- a block begins
  Opens : (opening : Opening) (ss : Stmts) (behind : Left) (rounds : List Round) → Spot
  -- a handler begins, with what was thrown on top
  Handles : (caught : Option (List ℕ)) (handler : Stmts) (behind : Left) (rounds : List Round) → Spot

-- ---- the operations that are left there

-- of a block
abbrev pub whole_row : Stmts → Names → Row → Row
whole_row ss ns c = block_row (declared_in ss) (stmts_row (declared_in ss ∷ ns) ss) (length c) c

-- of a handler
abbrev pub handled_row : Option (List ℕ) → Stmts → Names → Row → Row
handled_row caught handler ns c
    = handler_row caught (declared_in handler) (stmts_row ((caught_names caught ++ declared_in handler) ∷ ns) handler) c

abbrev pub end_row : Round → Names → Row → Row
end_row (Own ds) ns c = o.End ∷ []
end_row (Inner ds behind) ns c = o.Leave (length ds) (length c) ∷ c
end_row (First ds others behind) ns c =
    o.Leave (length ds) (length c) ∷ whole_row others ns c
end_row (Tried ds caught handler behind) ns c =
    o.EndTry (length ds) (length c) ∷ handled_row caught handler ns c

abbrev pub behind_of : Round → Left
behind_of (Own ds) = left no_more nothing
behind_of (Inner ds behind) = behind
behind_of (First ds others behind) = behind
behind_of (Tried ds caught handler behind) = behind

abbrev pub left_in : Names → Left → Row → Row
left_in ns l c = bindings_row ns l.bindings (stmts_row ns l.stmts c)

-- at the end of the innermost block
abbrev pub rounds_row : List Round → Row
rounds_row [] = o.End ∷ []
rounds_row (r ∷ rs) = end_row r (names_of rs) (left_in (names_of rs) (behind_of r) (rounds_row rs))

abbrev pub left_row : Left → List Round → Row
left_row l rs = left_in (names_of rs) l (rounds_row rs)

abbrev pub use_row : Names → Purpose → Row → Row
use_row ns purposes.Drops c = o.Drop ∷ c
use_row ns (purposes.Sets x) c = set_by x (found_here ns x) ∷ c
use_row ns (purposes.Writes x) c = write_by x (found_in ns x) ∷ c
use_row ns purposes.Throws c = o.Throw ∷ c
use_row ns purposes.Returns c = o.Return ∷ c
use_row ns purposes.Prints c = o.PrintAwaited ∷ c
use_row ns (purposes.Chooses ss others) c =
    chosen_row (declared_in ss) (stmts_row (declared_in ss ∷ ns) ss) (length c) (whole_row others ns c)
use_row ns (purposes.Awaits purpose) c = o.Await ∷ use_row ns purpose c

abbrev pub kont_row : Kont → Row
kont_row (Uses purpose behind rs) = use_row (names_of rs) purpose (left_row behind rs)
kont_row (Ors es k) = ors_row (kont_names k) es (length (kont_row k)) (kont_row k)
kont_row (Ands es k) = ands_row (kont_names k) es (length (kont_row k)) (kont_row k)
kont_row (Equals cs k) = compared_row (kont_names k) cs (kont_row k)
kont_row (Compares alike cs k) = o.Compare alike ∷ compared_row (kont_names k) cs (kont_row k)
kont_row (Sums es k) = sums_row (kont_names k) es (kont_row k)
kont_row (Adds es k) = o.Add ∷ sums_row (kont_names k) es (kont_row k)
kont_row (Turns k) = o.Not ∷ kont_row k
kont_row (Posts ls k) = links_row (kont_names k) ls (kont_row k)
kont_row (Passes n es ls k) =
    exprs_row (kont_names k) es (o.Call (among (suc n) es) ∷ links_row (kont_names k) ls (kont_row k))
kont_row (Prints n es k) = exprs_row (kont_names k) es (o.Print (among (suc n) es) ∷ kont_row k)
kont_row (Makes k) = o.NewError ∷ kont_row k
kont_row (Imports k) = o.Import ∷ kont_row k

abbrev pub opens_row : Opening → Stmts → Names → Row → Row
opens_row Plainly ss ns c = whole_row ss ns c
opens_row (Firstly others) ss ns c =
    block_row (declared_in ss) (stmts_row (declared_in ss ∷ ns) ss) (length c) (whole_row others ns c)
opens_row (Trying caught handler) ss ns c =
    try_row (declared_in ss) (stmts_row (declared_in ss ∷ ns) ss) (length c) (handled_row caught handler ns c)

abbrev pub spot_row : Spot → Row
spot_row (Begins e k) = expr_row (kont_names k) e (kont_row k)
spot_row (Has k) = kont_row k
spot_row (Between behind rs) = left_row behind rs
spot_row (Opens opening ss behind rs) = opens_row opening ss (names_of rs) (left_row behind rs)
spot_row (Handles caught handler behind rs) = handled_row caught handler (names_of rs) (left_row behind rs)

-- where a function begins
abbrev pub start : FunctionCode → Spot
start f = Between (left no_more f.body) (Own (call_names f) ∷ [])
