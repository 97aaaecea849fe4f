-- What operations do with what remains, where they ask nothing of the world.
use Rattle.std.proofs.Common.{◌≡◌, ℕ, nat_eq, Bool, true, false, List, [], ◌∷◌, map, Option, refl, ap, subst, sym}
use Rattle.std.specs.Prelude.{if◌then◌else◌, not}
use Rattle.esm_tree.specs.Syntax.{Expr, Exprs, more, Compared, no_more, Stmts, nothing}
use Rattle.esm_env.specs.Declarations.{Declaration, declared_in}
use Rattle.esm_env.specs.Modules.{Modules}
use Rattle.esm_values.specs.Value.{Value, same_value}
use Rattle.esm_values.specs.Value as value
use Rattle.esm_values.specs.Operators.{values, look_of, is_true, compare}
use Rattle.esm_values.specs.Plans.Rewritten.{Goes}
use Rattle.esm_expr_eval.specs.Terms.{Term, term, terms, compared_terms}
use Rattle.esm_expr_eval.specs.Terms.Term.{Val, Or, And, Equal}
use Rattle.esm_expr_eval.specs.Terms.Terms.{more as further}
use Rattle.esm_expr_eval.specs.Rewriting.Rewrites.{or, and, equal, not_of}
use Rattle.esm_rewriting.specs.Scopes.{Scope, unset}
use Rattle.esm_rewriting.specs.Rest.{Rest, end, branch, whole}
use Rattle.esm_rewriting.specs.Rest.{Use as purposes}
use Rattle.esm_rewriting.specs.Rest.{Rest as rests}
use Rattle.esm_rewriting.specs.Rest.{Part as parts}
use Rattle.esm_rewriting.specs.State.{State, Importing}
use Rattle.esm_rewriting.specs.Acts.{Inner as OverScopes}
use Rattle.esm_rewriting.specs.BodyRewriting.{On, RewritesBody, RewritesTerm}
use Rattle.esm_rewriting.specs.BodyRewriting.{RewritesBody as rule}
use Rattle.esm_rewriting.specs.Segment.{Segment}
use Rattle.esm_rewriting.specs.Contexts.{scopes_in, surrounded}
use Rattle.esm_rewriting.proofs.Paths.{outer_goes}
use Rattle.esm_row_laws.specs.Spots.{Left, left, Round, Inner, First, Tried, Kont, Uses, Ors, Ands, Compares, Turns, rounds_of, Opening, Plainly, Firstly, Trying, opened, Spot, Begins, Has, Between, Opens}
use Rattle.esm_row_laws.specs.Rooms.{HasRoom}
use Rattle.esm_row_laws.specs.Remaining.{left_rest, scope_by, contexts, plug, rest_of, rest_at}
use Rattle.esm_row_laws.specs.Leading.{Leads}
use Rattle.esm_row_laws.specs.Operations.{Values, unset_of}
use Rattle.esm_row_laws.proofs.Plugged as plugged

-- names without values are unset
pub scope_unset : (ds : List Declaration) → scope_by {V = Value ℕ} (values nat_eq) ds (unset_of ds) ≡ map unset ds
scope_unset [] = refl
scope_unset (d ∷ ds) = ap (λ s. unset d ∷ s) (scope_unset ds)

module _ {S : Type 0} (modules : S → Modules ℕ) (begins : Importing ℕ S) (m : ℕ) (w : State ℕ S) where
  abbrev To : Rest (Value ℕ) → Rest (Value ℕ) → Type 0
  To r s = Leads nat_eq modules begins m w r w s

  abbrev over : List Round → Values → OverScopes ℕ S
  over rs vss = record { scopes = scopes_in (contexts (values nat_eq) rs vss); state = w }

  abbrev Moves : List Round → Values → Rest (Value ℕ) → Rest (Value ℕ) → Type 0
  Moves rs vss r s = RewritesBody nat_eq modules begins m (over rs vss) r (On (Goes s)) (over rs vss)

  abbrev Parts : Kont → Values → Term (Value ℕ) → Term (Value ℕ) → Type 0
  Parts k vss e f = RewritesTerm nat_eq modules begins m (over (rounds_of k) vss) e (Goes f) (over (rounds_of k) vss)

  -- a rewriting of the innermost block that leaves the scopes and the state
  pub inside : (rs : List Round) (vss : Values) (r s : Rest (Value ℕ)) → Moves rs vss r s → To (surrounded (contexts (values nat_eq) rs vss) r) (surrounded (contexts (values nat_eq) rs vss) s)
  inside rs vss r s h callers how after seg =
      Segment.goes (On (Goes (surrounded (contexts (values nat_eq) rs vss) s))) (outer_goes nat_eq modules begins m (contexts (values nat_eq) rs vss) w r s (over rs vss) refl h) refl seg

  -- a rewriting of a part that leaves them
  pub of_part : (k : Kont) (vss : Values) (vs : List (Value ℕ)) (e f : Term (Value ℕ)) → HasRoom k vs → Parts k vss e f → To (rest_of (values nat_eq) k vss vs e) (rest_of (values nat_eq) k vss vs f)
  of_part k vss vs e f room h = inside (rounds_of k) vss (plug (values nat_eq) k vs e) (plug (values nat_eq) k vs f) (plugged.goes nat_eq modules begins m k vs (over (rounds_of k) vss) (over (rounds_of k) vss) e f room h)

  abbrev At : Spot → Values → List (Value ℕ) → Rest (Value ℕ)
  At s vss vs = rest_at (values nat_eq) s vss vs

  -- ---- operators

  abbrev expr : Expr → Term (Value ℕ)
  expr e = term (values nat_eq) e

  ors : (e : Expr) (es : Exprs) (k : Kont) (vss : Values) (v : Value ℕ) (b : Bool) → is_true (look_of v) ≡ b → Parts k vss (Or (Val v) (further (expr e) (terms (values nat_eq) es))) (if b then Val v else Or (expr e) (terms (values nat_eq) es))
  ors e es k vss v b h = subst (λ c. Parts k vss (Or (Val v) (further (expr e) (terms (values nat_eq) es))) (if c then Val v else Or (expr e) (terms (values nat_eq) es))) h or

  ands : (e : Expr) (es : Exprs) (k : Kont) (vss : Values) (v : Value ℕ) (b : Bool) → is_true (look_of v) ≡ b → Parts k vss (And (Val v) (further (expr e) (terms (values nat_eq) es))) (if b then And (expr e) (terms (values nat_eq) es) else Val v)
  ands e es k vss v b h = subst (λ c. Parts k vss (And (Val v) (further (expr e) (terms (values nat_eq) es))) (if c then And (expr e) (terms (values nat_eq) es) else Val v)) h and

  pub or_stays : (e : Expr) (es : Exprs) (k : Kont) (vss : Values) (v : Value ℕ) (vs : List (Value ℕ)) → HasRoom k vs → is_true (look_of v) ≡ true → To (At (Has (Ors (more e es) k)) vss (v ∷ vs)) (At (Has k) vss (v ∷ vs))
  or_stays e es k vss v vs room h = of_part k vss vs _ _ room (ors e es k vss v true h)

  pub or_goes : (e : Expr) (es : Exprs) (k : Kont) (vss : Values) (v : Value ℕ) (vs : List (Value ℕ)) → HasRoom k vs → is_true (look_of v) ≡ false → To (At (Has (Ors (more e es) k)) vss (v ∷ vs)) (At (Begins e (Ors es k)) vss vs)
  or_goes e es k vss v vs room h = of_part k vss vs _ _ room (ors e es k vss v false h)

  pub and_stays : (e : Expr) (es : Exprs) (k : Kont) (vss : Values) (v : Value ℕ) (vs : List (Value ℕ)) → HasRoom k vs → is_true (look_of v) ≡ false → To (At (Has (Ands (more e es) k)) vss (v ∷ vs)) (At (Has k) vss (v ∷ vs))
  and_stays e es k vss v vs room h = of_part k vss vs _ _ room (ands e es k vss v false h)

  pub and_goes : (e : Expr) (es : Exprs) (k : Kont) (vss : Values) (v : Value ℕ) (vs : List (Value ℕ)) → HasRoom k vs → is_true (look_of v) ≡ true → To (At (Has (Ands (more e es) k)) vss (v ∷ vs)) (At (Begins e (Ands es k)) vss vs)
  and_goes e es k vss v vs room h = of_part k vss vs _ _ room (ands e es k vss v true h)

  pub compares : (b : Bool) (cs : Compared) (k : Kont) (vss : Values) (u v : Value ℕ) (vs : List (Value ℕ)) → HasRoom k vs → To (At (Has (Compares b cs k)) vss (v ∷ u ∷ vs)) (rest_of (values nat_eq) k vss vs (Equal (Val (value.Truth (compare b (same_value nat_eq u v)))) (compared_terms (values nat_eq) cs)))
  compares b cs k vss u v vs room = of_part k vss vs _ _ room equal

  pub turns : (k : Kont) (vss : Values) (v : Value ℕ) (vs : List (Value ℕ)) → HasRoom k vs → To (At (Has (Turns k)) vss (v ∷ vs)) (rest_of (values nat_eq) k vss vs (Val (value.Truth (not (is_true (look_of v))))))
  turns k vss v vs room = of_part k vss vs _ _ room not_of

  -- ---- uses

  pub drops : (l : Left) (rs : List Round) (vss : Values) (v : Value ℕ) → To (At (Has (Uses purposes.Drops l rs)) vss (v ∷ [])) (At (Between l rs) vss [])
  drops l rs vss v = inside rs vss _ _ rule.drops

  chosen : (ss others : Stmts) (l : Left) (rs : List Round) (vss : Values) (v : Value ℕ) (b : Bool) → is_true (look_of v) ≡ b → Moves rs vss (rests.more (parts.Does (purposes.Chooses ss others) (Val v)) (left_rest (values nat_eq) l)) (rests.more (branch (values nat_eq) b ss others) (left_rest (values nat_eq) l))
  chosen ss others l rs vss v b h = subst (λ c. Moves rs vss (rests.more (parts.Does (purposes.Chooses ss others) (Val v)) (left_rest (values nat_eq) l)) (rests.more (branch (values nat_eq) c ss others) (left_rest (values nat_eq) l))) h rule.chooses

  pub chooses : (ss others : Stmts) (l : Left) (rs : List Round) (vss : Values) (v : Value ℕ) → is_true (look_of v) ≡ true → To (At (Has (Uses (purposes.Chooses ss others) l rs)) vss (v ∷ [])) (At (Opens (Firstly others) ss l rs) vss [])
  chooses ss others l rs vss v h = inside rs vss _ _ (chosen ss others l rs vss v true h)

  pub skips : (ss others : Stmts) (l : Left) (rs : List Round) (vss : Values) (v : Value ℕ) → is_true (look_of v) ≡ false → To (At (Has (Uses (purposes.Chooses ss others) l rs)) vss (v ∷ [])) (At (Opens Plainly others l rs) vss [])
  skips ss others l rs vss v h = inside rs vss _ _ (chosen ss others l rs vss v false h)

  -- ---- blocks

  -- a scope whose names are unset is the scope of a block that begins
  with_scope : (C : Scope (Value ℕ) → Rest (Value ℕ)) (r : Rest (Value ℕ)) (ss : Stmts) → r ≡ C (map unset (declared_in ss)) → To r (C (scope_by (values nat_eq) (declared_in ss) (unset_of (declared_in ss))))
  with_scope C r ss e callers how after seg =
      subst (λ q. Segment nat_eq modules begins w m q callers how after) (sym e) (subst (λ q. Segment nat_eq modules begins w m q callers how after) (ap C (scope_unset (declared_in ss))) seg)

  pub opens : (opening : Opening) (ss : Stmts) (l : Left) (rs : List Round) (vss : Values) → To (At (Opens opening ss l rs) vss []) (At (Between (left no_more ss) (opened opening (declared_in ss) l ∷ rs)) (unset_of (declared_in ss) ∷ vss) [])
  opens Plainly ss l rs vss = with_scope (λ scope. surrounded (contexts (values nat_eq) rs vss) (rests.more (parts.In scope (whole ss)) (left_rest (values nat_eq) l))) _ ss refl
  opens (Firstly others) ss l rs vss = with_scope (λ scope. surrounded (contexts (values nat_eq) rs vss) (rests.more (parts.In scope (whole ss)) (left_rest (values nat_eq) l))) _ ss refl
  opens (Trying caught handler) ss l rs vss = with_scope (λ scope. surrounded (contexts (values nat_eq) rs vss) (rests.more (parts.Tries (rests.more (parts.In scope (whole ss)) end) caught handler) (left_rest (values nat_eq) l))) _ ss refl

  pub leaves : (ds : List Declaration) (l : Left) (rs : List Round) (vs : List (Option (Value ℕ))) (vss : Values) → To (At (Between (left no_more nothing) (Inner ds l ∷ rs)) (vs ∷ vss) []) (At (Between l rs) vss [])
  leaves ds l rs vs vss = inside rs vss _ _ rule.inner_end

  pub leaves_first : (ds : List Declaration) (others : Stmts) (l : Left) (rs : List Round) (vs : List (Option (Value ℕ))) (vss : Values) → To (At (Between (left no_more nothing) (First ds others l ∷ rs)) (vs ∷ vss) []) (At (Between l rs) vss [])
  leaves_first ds others l rs vs vss = inside rs vss _ _ rule.inner_end

  pub leaves_tried : (ds : List Declaration) (caught : Option (List ℕ)) (handler : Stmts) (l : Left) (rs : List Round) (vs : List (Option (Value ℕ))) (vss : Values) → To (At (Between (left no_more nothing) (Tried ds caught handler l ∷ rs)) (vs ∷ vss) []) (At (Between l rs) vss [])
  leaves_tried ds caught handler l rs vs vss callers how after seg =
      inside rs vss _ _ (rule.tries rule.inner_end) callers how after (inside rs vss (rests.more (parts.Tries end caught handler) (left_rest (values nat_eq) l)) _ rule.tries_end callers how after seg)
