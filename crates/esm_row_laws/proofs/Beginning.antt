-- Where a statement leads behind its step, and what its step comes to.
use Rattle.std.proofs.Common.{◌≡◌, ℕ, nat_eq, List, [], refl, ap, subst, sym}
use Rattle.std.specs.Prelude.{Result, Ok, Err}
use Rattle.esm_base.specs.declared.limits.Limit.{Limit}
use Rattle.esm_tree.specs.Syntax as x
use Rattle.esm_tree.specs.Syntax.{Init, absent, plain, awaited, no_more, Stmt, Stmts, first}
use Rattle.esm_env.specs.Modules.{Modules}
use Rattle.esm_values.specs.Value.{Value}
use Rattle.esm_values.specs.Operators.{values}
use Rattle.esm_values.specs.Acts.{Act as act}
use Rattle.esm_values.specs.Plans.{Rewritten, Follows}
use Rattle.esm_values.specs.Plans.{Follows as follows}
use Rattle.esm_values.specs.Plans.Rewritten.{Goes, Stops}
use Rattle.esm_values.specs.Plans.Plan.{Ends, Asks}
use Rattle.esm_rewriting.specs.Rest.{Use as Purpose}
use Rattle.esm_rewriting.specs.Rest.{Rest, begin}
use Rattle.esm_rewriting.specs.State.{State, Importing, take_steps}
use Rattle.esm_rewriting.specs.Acts.{Inner as OverScopes, Performs, over_scopes}
use Rattle.esm_rewriting.specs.BodyRewriting.{On}
use Rattle.esm_rewriting.specs.BodyRewriting.{RewritesBody as rule}
use Rattle.esm_rewriting.specs.Segment.{Active, Segment}
use Rattle.esm_rewriting.specs.Segment.{Ended as ended}
use Rattle.esm_rewriting.specs.Contexts.{scopes_in, surrounded}
use Rattle.esm_rewriting.proofs.Paths.{outer_goes, outer_stops}
use Rattle.esm_rows.specs.Rows.{init_row, stmt_row}
use Rattle.esm_row_laws.specs.Spots.{Left, left, Round, names_of, Between, left_row, use_row, spot_row}
use Rattle.esm_row_laws.specs.Remaining.{left_rest, contexts, rest_at}
use Rattle.esm_row_laws.specs.Leading.{Leads}
use Rattle.esm_row_laws.specs.Operations.{Values}
use Rattle.esm_row_laws.specs.Beginnings.{begun_init, begun}

init_same : (value : Init) (purpose : Purpose) (l : Left) (rs : List Round) → spot_row (begun_init value purpose l rs) ≡ init_row (names_of rs) value (use_row (names_of rs) purpose (left_row l rs))
init_same absent purpose l rs = refl
init_same (plain e) purpose l rs = refl
init_same (awaited e) purpose l rs = refl

pub row : (st : Stmt) (ss : Stmts) (rs : List Round) → spot_row (begun st ss rs) ≡ stmt_row (names_of rs) st (left_row (left no_more ss) rs)
row x.Empty ss rs = refl
row (x.Expression e) ss rs = refl
row (x.Assign name value) ss rs = init_same value _ (left no_more ss) rs
row (x.Block inner) ss rs = refl
row (x.If e inner) ss rs = refl
row (x.IfElse e inner others) ss rs = refl
row (x.Try inner handler) ss rs = refl
row (x.TryCatch inner name handler) ss rs = refl
row (x.Throw e) ss rs = refl
row x.Return ss rs = refl
row (x.ReturnValue e) ss rs = refl
row (x.Await e) ss rs = refl
row (x.PrintAwait e) ss rs = refl
row (x.Const bs) ss rs = refl
row (x.Let bs) ss rs = refl
row (x.Default value) ss rs = init_same value _ (left no_more ss) rs

module _ (ss : Stmts) (rs : List Round) (vss : Values) where
  abbrev Same : Stmt → Type 0
  Same st = rest_at (values nat_eq) (begun st ss rs) vss [] ≡ surrounded (contexts (values nat_eq) rs vss) (begin (values nat_eq) st (left_rest (values nat_eq) (left no_more ss)))

  assigns : (name : List ℕ) (value : Init) → Same (x.Assign name value)
  assigns name absent = refl
  assigns name (plain e) = refl
  assigns name (awaited e) = refl

  defaults : (value : Init) → Same (x.Default value)
  defaults absent = refl
  defaults (plain e) = refl
  defaults (awaited e) = refl

  pub rest : (st : Stmt) → Same st
  rest x.Empty = refl
  rest (x.Expression e) = refl
  rest (x.Assign name value) = assigns name value
  rest (x.Block inner) = refl
  rest (x.If e inner) = refl
  rest (x.IfElse e inner others) = refl
  rest (x.Try inner handler) = refl
  rest (x.TryCatch inner name handler) = refl
  rest (x.Throw e) = refl
  rest x.Return = refl
  rest (x.ReturnValue e) = refl
  rest (x.Await e) = refl
  rest (x.PrintAwait e) = refl
  rest (x.Const bs) = refl
  rest (x.Let bs) = refl
  rest (x.Default value) = defaults value

module _ {S : Type 0} (modules : S → Modules ℕ) (begins : Importing ℕ S) (m : ℕ) (rs : List Round) (vss : Values) where
  abbrev over : State ℕ S → OverScopes ℕ S
  over w = record { scopes = scopes_in (contexts (values nat_eq) rs vss); state = w }

  -- a step of the world is one over scopes
  performs : (w late : State ℕ S) (answer : Result (Unit {0}) Limit) → take_steps w 1 ≡ (answer, late) → Performs nat_eq modules begins m (over w) (act.Step 1) answer (over late)
  performs w late answer e = ap (over_scopes (over w)) (sym e)

  abbrev Begun : Stmt → Stmts → Rest (Value ℕ)
  Begun st ss = begin (values nat_eq) st (left_rest (values nat_eq) (left no_more ss))

  abbrev Planned : Stmt → Stmts → State ℕ S → Rewritten (Value ℕ) Limit (Rest (Value ℕ)) → State ℕ S → Type 0
  Planned st ss w c late = Follows (Performs nat_eq modules begins m) (over w) (Asks (act.Step 1) (λ _. Ends (Goes (Begun st ss)))) c (over late)

  goes_plan : (st : Stmt) (ss : Stmts) (w late : State ℕ S) → take_steps w 1 ≡ (Ok tt, late) → Planned st ss w (Goes (Begun st ss)) late
  goes_plan st ss w late e = follows.asks tt (performs w late (Ok tt) e) follows.ends

  stops_plan : (st : Stmt) (ss : Stmts) (w late : State ℕ S) (why : Limit) → take_steps w 1 ≡ (Err why, late) → Planned st ss w (Stops why) late
  stops_plan st ss w late why e = follows.stops (performs w late (Err why) e)

  pub steps : (st : Stmt) (ss : Stmts) (w late : State ℕ S) → take_steps w 1 ≡ (Ok tt, late) → Leads nat_eq modules begins m w (rest_at (values nat_eq) (Between (left no_more (first st ss)) rs) vss []) late (rest_at (values nat_eq) (begun st ss rs) vss [])
  steps st ss w late e callers how after seg =
      Segment.goes (On (Goes (surrounded (contexts (values nat_eq) rs vss) (Begun st ss)))) (outer_goes nat_eq modules begins m (contexts (values nat_eq) rs vss) w _ (Begun st ss) (over late) refl (rule.begins_at (goes_plan st ss w late e))) refl
      (subst (λ r. Segment nat_eq modules begins late m r callers how after) (rest ss rs vss st) seg)

  pub stops : (st : Stmt) (ss : Stmts) (w late : State ℕ S) (why : Limit) → take_steps w 1 ≡ (Err why, late) → (callers : List (Active ℕ)) → Segment nat_eq modules begins w m (rest_at (values nat_eq) (Between (left no_more (first st ss)) rs) vss []) callers (ended.Stopped why) late
  stops st ss w late why e callers =
      Segment.over (On (Stops why)) (outer_stops nat_eq modules begins m (contexts (values nat_eq) rs vss) w _ why (over late) refl (rule.begins_at (stops_plan st ss w late why e))) refl
