-- Where a throw leads in a function, and what a handler and the ends of a function come to.
use Rattle.std.specs.Prelude.{◌≡◌, ℕ, nat_eq, List, [], ◌∷◌, ◌++◌, Option, Some, None}
use Rattle.esm_tree.specs.Syntax.{no_more, Stmts, nothing}
use Rattle.esm_env.specs.Declarations.{Declaration, declared_in}
use Rattle.esm_env.specs.Modules.{Modules}
use Rattle.esm_values.specs.Value.{Value, Undefined}
use Rattle.esm_values.specs.Operators.{values}
use Rattle.esm_values.specs.Plans.Rewritten.{Leaves}
use Rattle.esm_expr_eval.specs.Terms.Term.{Val, Fails}
use Rattle.esm_rewriting.specs.Rest.{Use as purposes}
use Rattle.esm_rewriting.specs.Rest.{Rest, fill_rest}
use Rattle.esm_rewriting.specs.State.{State, Importing}
use Rattle.esm_rewriting.specs.Acts.{Inner as OverScopes}
use Rattle.esm_rewriting.specs.BodyRewriting.{On, RewritesBody}
use Rattle.esm_rewriting.specs.Segment.{Active, Ended, Segment}
use Rattle.esm_rewriting.specs.Contexts.{scopes_in, surrounded}
use Rattle.esm_rows.specs.Rows.{caught_names}
use Rattle.esm_row_laws.specs.Spots.{Left, left, Round, Own, Inner, First, Tried, Uses, Has, Between, Handles}
use Rattle.esm_row_laws.specs.Remaining.{contexts, rest_at}
use Rattle.esm_row_laws.specs.Leading.{Leads}
use Rattle.esm_row_laws.specs.Operations.{Values, unset_of, PassesOn}

-- a handler, what is behind its `try`, and what is round it
pub record Landing : Type 0 where
  pub caught : Option (List ℕ)
  pub handler : Stmts
  pub behind : Left
  pub rounds : List Round
  pub names : Values

abbrev pub outer_values : Values → Values
outer_values [] = []
outer_values (vs ∷ vss) = vss

abbrev pub lands_by : Round → List Round → Values → Option Landing → Option Landing
lands_by (Own ds) rs vss later = later
lands_by (Inner ds l) rs vss later = later
lands_by (First ds others l) rs vss later = later
lands_by (Tried ds caught handler l) rs vss later
    = Some (record { caught = caught; handler = handler; behind = l; rounds = rs; names = vss })

-- the innermost handler
abbrev pub landing : List Round → Values → Option Landing
landing [] vss = None
landing (r ∷ rs) vss = lands_by r rs (outer_values vss) (landing rs (outer_values vss))

-- the values of what a handler catches
abbrev pub caught_values : Option (List ℕ) → Value ℕ → List (Option (Value ℕ))
caught_values None v = []
caught_values (Some name) v = Some v ∷ []

module _ {S : Type 0} (modules : S → Modules ℕ) (begins : Importing ℕ S) where
  abbrev pub over_names : List Round → Values → State ℕ S → OverScopes ℕ S
  over_names rs vss w = record { scopes = scopes_in (contexts (values nat_eq) rs vss); state = w }

  -- what remains of the innermost block throws
  abbrev pub ThrowsIn : ℕ → List Round → Values → State ℕ S → Rest (Value ℕ) → Value ℕ → State ℕ S → Type 0
  ThrowsIn m rs vss w r v late = RewritesBody nat_eq modules begins m (over_names rs vss w) r (On (Leaves v)) (over_names rs vss late)

  abbrev pub remains : List Round → Values → Rest (Value ℕ) → Rest (Value ℕ)
  remains rs vss r = surrounded (contexts (values nat_eq) rs vss) r

  pub record ThrowsLand : Type 0 where
    -- in a handler
    pub caught : (m : ℕ) (rs : List Round) (vss : Values) (w late : State ℕ S) (r : Rest (Value ℕ)) (v : Value ℕ) (l : Landing)
        → ThrowsIn m rs vss w r v late → landing rs vss ≡ Some l → Leads nat_eq modules begins m w (remains rs vss r) late
        (rest_at (values nat_eq) (Handles l.caught l.handler l.behind l.rounds) l.names (v ∷ []))
    -- or in the caller
    pub leaves : (m : ℕ) (rs : List Round) (vss : Values) (w late : State ℕ S) (r : Rest (Value ℕ)) (v : Value ℕ)
        → ThrowsIn m rs vss w r v late → landing rs vss ≡ None → (c : Active ℕ) (cs : List (Active ℕ)) (how : Ended ℕ) (after : State ℕ S)
        → Segment nat_eq modules begins late c.at (fill_rest (Fails v) c.rest) cs how after
        → Segment nat_eq modules begins w m (remains rs vss r) (c ∷ cs) how after
    pub handles : (caught : Option (List ℕ)) (handler : Stmts) (l : Left) (rs : List Round) (vss : Values) (v : Value ℕ)
        → PassesOn modules begins (Handles caught handler l rs) vss (v ∷ [])
        (Between (left no_more handler) (Inner (caught_names caught ++ declared_in handler) l ∷ rs))
        ((caught_values caught v ++ unset_of (declared_in handler)) ∷ vss) []

  pub record FunctionsEnd : Type 0 where
    pub returns : (m : ℕ) (l : Left) (rs : List Round) (vss : Values) (v : Value ℕ) (w : State ℕ S) (c : Active ℕ) (cs : List (Active ℕ))
        (how : Ended ℕ) (after : State ℕ S) → Segment nat_eq modules begins w c.at (fill_rest (Val v) c.rest) cs how after
        → Segment nat_eq modules begins w m (rest_at (values nat_eq) (Has (Uses purposes.Returns l rs)) vss (v ∷ [])) (c ∷ cs) how after
    pub ends : (m : ℕ) (ds : List Declaration) (vs : List (Option (Value ℕ))) (w : State ℕ S) (c : Active ℕ) (cs : List (Active ℕ))
        (how : Ended ℕ) (after : State ℕ S) → Segment nat_eq modules begins w c.at (fill_rest (Val Undefined) c.rest) cs how after
        → Segment nat_eq modules begins w m (rest_at (values nat_eq) (Between (left no_more nothing) (Own ds ∷ [])) (vs ∷ []) [])
        (c ∷ cs) how after
