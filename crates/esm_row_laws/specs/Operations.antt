-- What operations do with what remains, where they ask nothing of the world.
use Rattle.std.specs.Prelude.{◌≡◌, ℕ, nat_eq, Bool, true, false, not, List, [], ◌∷◌, Option, None}
use Rattle.esm_tree.specs.Syntax as x
use Rattle.esm_tree.specs.Syntax.{Expr, Exprs, more, Compared, no_more, Stmts, nothing}
use Rattle.esm_env.specs.Declarations.{Declaration, declared_in}
use Rattle.esm_env.specs.Modules.{Modules}
use Rattle.esm_values.specs.Value.{Value, same_value}
use Rattle.esm_values.specs.Value as value
use Rattle.esm_values.specs.Operators.{values, look_of, is_true, compare}
use Rattle.esm_rewriting.specs.Rest.{Use as purposes}
use Rattle.esm_rewriting.specs.State.{State, Importing}
use Rattle.esm_row_laws.specs.Spots.{Left, left, Round, Inner, First, Tried, Kont, Uses, Ors, Ands, Equals, Compares, Turns, Opening, Plainly, Firstly, opened, Spot, Begins, Has, Between, Opens}
use Rattle.esm_row_laws.specs.Rooms.{HasRoom}
use Rattle.esm_row_laws.specs.Remaining.{rest_at}
use Rattle.esm_row_laws.specs.Leading.{Leads}

-- the values of each block's names, the innermost block first
abbrev pub Values : Type 0
Values = List (List (Option (Value ℕ)))

-- unset names
abbrev pub unset_of : List Declaration → List (Option (Value ℕ))
unset_of [] = []
unset_of (d ∷ ds) = None ∷ unset_of ds

module _ {S : Type 0} (modules : S → Modules ℕ) (begins : Importing ℕ S) where
  -- what remains at the first place leads to what remains at the second, in the same state
  abbrev pub PassesOn : Spot → Values → List (Value ℕ) → Spot → Values → List (Value ℕ) → Type 0
  PassesOn s vss vs t wss ws = (m : ℕ) (w : State ℕ S)
      → Leads nat_eq modules begins m w (rest_at (values nat_eq) s vss vs) w (rest_at (values nat_eq) t wss ws)

  pub record OperationsPass : Type 0 where
    -- values
    pub text : (s : List ℕ) (k : Kont) (vss : Values) (vs : List (Value ℕ))
        → PassesOn (Begins (x.Text s) k) vss vs (Has k) vss (value.Text s ∷ vs)
    pub truth : (b : Bool) (k : Kont) (vss : Values) (vs : List (Value ℕ))
        → PassesOn (Begins (x.Truth b) k) vss vs (Has k) vss (value.Truth b ∷ vs)
    pub undefined : (k : Kont) (vss : Values) (vs : List (Value ℕ))
        → PassesOn (Begins x.Undefined k) vss vs (Has k) vss (value.Undefined ∷ vs)
    -- operators
    pub or_stays : (e : Expr) (es : Exprs) (k : Kont) (vss : Values) (v : Value ℕ) (vs : List (Value ℕ)) → HasRoom k vs
        → is_true (look_of v) ≡ true → PassesOn (Has (Ors (more e es) k)) vss (v ∷ vs) (Has k) vss (v ∷ vs)
    pub or_goes : (e : Expr) (es : Exprs) (k : Kont) (vss : Values) (v : Value ℕ) (vs : List (Value ℕ)) → HasRoom k vs
        → is_true (look_of v) ≡ false → PassesOn (Has (Ors (more e es) k)) vss (v ∷ vs) (Begins e (Ors es k)) vss vs
    pub and_stays : (e : Expr) (es : Exprs) (k : Kont) (vss : Values) (v : Value ℕ) (vs : List (Value ℕ)) → HasRoom k vs
        → is_true (look_of v) ≡ false → PassesOn (Has (Ands (more e es) k)) vss (v ∷ vs) (Has k) vss (v ∷ vs)
    pub and_goes : (e : Expr) (es : Exprs) (k : Kont) (vss : Values) (v : Value ℕ) (vs : List (Value ℕ)) → HasRoom k vs
        → is_true (look_of v) ≡ true → PassesOn (Has (Ands (more e es) k)) vss (v ∷ vs) (Begins e (Ands es k)) vss vs
    pub compares : (b : Bool) (cs : Compared) (k : Kont) (vss : Values) (u v : Value ℕ) (vs : List (Value ℕ)) → HasRoom k vs
        → PassesOn (Has (Compares b cs k)) vss (v ∷ u ∷ vs) (Has (Equals cs k)) vss (value.Truth (compare b (same_value nat_eq u v)) ∷ vs)
    pub turns : (k : Kont) (vss : Values) (v : Value ℕ) (vs : List (Value ℕ)) → HasRoom k vs
        → PassesOn (Has (Turns k)) vss (v ∷ vs) (Has k) vss (value.Truth (not (is_true (look_of v))) ∷ vs)
    -- uses
    pub drops : (l : Left) (rs : List Round) (vss : Values) (v : Value ℕ)
        → PassesOn (Has (Uses purposes.Drops l rs)) vss (v ∷ []) (Between l rs) vss []
    pub chooses : (ss others : Stmts) (l : Left) (rs : List Round) (vss : Values) (v : Value ℕ) → is_true (look_of v) ≡ true
        → PassesOn (Has (Uses (purposes.Chooses ss others) l rs)) vss (v ∷ []) (Opens (Firstly others) ss l rs) vss []
    pub skips : (ss others : Stmts) (l : Left) (rs : List Round) (vss : Values) (v : Value ℕ) → is_true (look_of v) ≡ false
        → PassesOn (Has (Uses (purposes.Chooses ss others) l rs)) vss (v ∷ []) (Opens Plainly others l rs) vss []
    -- blocks
    pub opens : (opening : Opening) (ss : Stmts) (l : Left) (rs : List Round) (vss : Values)
        → PassesOn (Opens opening ss l rs) vss []
        (Between (left no_more ss) (opened opening (declared_in ss) l ∷ rs)) (unset_of (declared_in ss) ∷ vss) []
    pub leaves : (ds : List Declaration) (l : Left) (rs : List Round) (vs : List (Option (Value ℕ))) (vss : Values)
        → PassesOn (Between (left no_more nothing) (Inner ds l ∷ rs)) (vs ∷ vss) [] (Between l rs) vss []
    pub leaves_first : (ds : List Declaration) (others : Stmts) (l : Left) (rs : List Round) (vs : List (Option (Value ℕ))) (vss : Values)
        → PassesOn (Between (left no_more nothing) (First ds others l ∷ rs)) (vs ∷ vss) [] (Between l rs) vss []
    pub leaves_tried : (ds : List Declaration) (caught : Option (List ℕ)) (handler : Stmts) (l : Left) (rs : List Round)
        (vs : List (Option (Value ℕ))) (vss : Values)
        → PassesOn (Between (left no_more nothing) (Tried ds caught handler l ∷ rs)) (vs ∷ vss) [] (Between l rs) vss []
