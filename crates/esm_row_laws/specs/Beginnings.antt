-- Where a statement leads behind its step, and what its step comes to.
use Rattle.std.specs.Prelude.{◌≡◌, ℕ, nat_eq, List, [], Some, None, Ok, Err}
use Rattle.esm_base.specs.declared.limits.Limit.{Limit}
use Rattle.esm_base.specs.DefaultExport.{star_default}
use Rattle.esm_tree.specs.Syntax as x
use Rattle.esm_tree.specs.Syntax.{Init, absent, plain, awaited, no_more, Stmt, Stmts, nothing, first}
use Rattle.esm_env.specs.Modules.{Modules}
use Rattle.esm_values.specs.Operators.{values}
use Rattle.esm_rewriting.specs.Rest.{Use as Purpose}
use Rattle.esm_rewriting.specs.Rest.{Use as purposes}
use Rattle.esm_rewriting.specs.Rest.{begin}
use Rattle.esm_rewriting.specs.State.{State, Importing, take_steps}
use Rattle.esm_rewriting.specs.Segment.{Active, Segment}
use Rattle.esm_rewriting.specs.Segment.{Ended as ended}
use Rattle.esm_rewriting.specs.Contexts.{surrounded}
use Rattle.esm_rows.specs.Rows.{stmt_row}
use Rattle.esm_row_laws.specs.Spots.{Left, left, Round, names_of, Uses, Plainly, Trying, Spot, Begins, Between, Opens, left_row, spot_row}
use Rattle.esm_row_laws.specs.Remaining.{left_rest, contexts, rest_at}
use Rattle.esm_row_laws.specs.Leading.{Leads}
use Rattle.esm_row_laws.specs.Operations.{Values}

-- what something is set to, for this
abbrev pub begun_init : Init → Purpose → Left → List Round → Spot
begun_init absent purpose l rs = Begins x.Undefined (Uses purpose l rs)
begun_init (plain e) purpose l rs = Begins e (Uses purpose l rs)
begun_init (awaited e) purpose l rs = Begins e (Uses (purposes.Awaits purpose) l rs)

-- where a statement leads, behind which these statements are
abbrev pub begun : Stmt → Stmts → List Round → Spot
begun x.Empty ss rs = Between (left no_more ss) rs
begun (x.Expression e) ss rs = Begins e (Uses purposes.Drops (left no_more ss) rs)
begun (x.Assign name value) ss rs = begun_init value (purposes.Writes name) (left no_more ss) rs
begun (x.Block inner) ss rs = Opens Plainly inner (left no_more ss) rs
begun (x.If e inner) ss rs = Begins e (Uses (purposes.Chooses inner nothing) (left no_more ss) rs)
begun (x.IfElse e inner others) ss rs = Begins e (Uses (purposes.Chooses inner others) (left no_more ss) rs)
begun (x.Try inner handler) ss rs = Opens (Trying None handler) inner (left no_more ss) rs
begun (x.TryCatch inner name handler) ss rs = Opens (Trying (Some name) handler) inner (left no_more ss) rs
begun (x.Throw e) ss rs = Begins e (Uses purposes.Throws (left no_more ss) rs)
begun x.Return ss rs = Begins x.Undefined (Uses purposes.Returns (left no_more ss) rs)
begun (x.ReturnValue e) ss rs = Begins e (Uses purposes.Returns (left no_more ss) rs)
begun (x.Await e) ss rs = Begins e (Uses (purposes.Awaits purposes.Drops) (left no_more ss) rs)
begun (x.PrintAwait e) ss rs = Begins e (Uses (purposes.Awaits purposes.Prints) (left no_more ss) rs)
begun (x.Const bs) ss rs = Between (left bs ss) rs
begun (x.Let bs) ss rs = Between (left bs ss) rs
begun (x.Default value) ss rs = begun_init value (purposes.Sets star_default) (left no_more ss) rs

module _ {S : Type 0} (modules : S → Modules ℕ) (begins : Importing ℕ S) where
  pub record StatementsBegin : Type 0 where
    pub row : (st : Stmt) (ss : Stmts) (rs : List Round)
        → spot_row (begun st ss rs) ≡ stmt_row (names_of rs) st (left_row (left no_more ss) rs)
    pub rest : (st : Stmt) (ss : Stmts) (rs : List Round) (vss : Values) → rest_at (values nat_eq) (begun st ss rs) vss []
        ≡ surrounded (contexts (values nat_eq) rs vss) (begin (values nat_eq) st (left_rest (values nat_eq) (left no_more ss)))
    -- the step is taken, or one too many
    pub steps : (m : ℕ) (st : Stmt) (ss : Stmts) (rs : List Round) (vss : Values) (w late : State ℕ S) → take_steps w 1 ≡ (Ok tt, late)
        → Leads nat_eq modules begins m w (rest_at (values nat_eq) (Between (left no_more (first st ss)) rs) vss []) late
        (rest_at (values nat_eq) (begun st ss rs) vss [])
    pub stops : (m : ℕ) (st : Stmt) (ss : Stmts) (rs : List Round) (vss : Values) (w late : State ℕ S) (why : Limit)
        → take_steps w 1 ≡ (Err why, late) → (callers : List (Active ℕ))
        → Segment nat_eq modules begins w m (rest_at (values nat_eq) (Between (left no_more (first st ss)) rs) vss []) callers
        (ended.Stopped why) late
