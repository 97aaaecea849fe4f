-- Laws of places in rows.
use Rattle.std.specs.Prelude.{◌≡◌, ℕ, nat_eq, List, ◌∷◌, Option}
use Rattle.esm_base.specs.declared.limits.Limit.{Limit}
use Rattle.esm_values.specs.Value.{Value}
use Rattle.esm_values.specs.Operators.{values}
use Rattle.esm_values.specs.Plans.{Rewritten}
use Rattle.esm_values.specs.Plans.Rewritten.{Goes, Leaves, Calls, Stops}
use Rattle.esm_env.specs.Modules.{Modules}
use Rattle.esm_expr_eval.specs.Terms.{Term}
use Rattle.esm_rewriting.specs.State.{State, Importing}
use Rattle.esm_rewriting.specs.Acts.{Inner}
use Rattle.esm_rewriting.specs.BodyRewriting.{RewrittenBody, On, RewritesBody, RewritesTerm}
use Rattle.esm_row_laws.specs.Spots.{Kont, Spot, spot_row}
use Rattle.esm_row_laws.specs.Rooms.{HasRoom, SpotHasRoom}
use Rattle.esm_row_laws.specs.Remaining.{plug, rest_at}
use Rattle.esm_row_laws.specs.Settled.{settle}
use Rattle.esm_row_laws.specs.Leading.{Leads}
use Rattle.esm_row_laws.specs.Told.{IsOwn, Told}
use Rattle.esm_rows.specs.Rows.{Row}
use Rattle.esm_rows.specs.Rows.{Operation as o}

module _ {S : Type 0} (modules : S → Modules ℕ) (begins : Importing ℕ S) where
  abbrev pub InPlace : Kont → List (Value ℕ) → Rewritten (Value ℕ) Limit (Term (Value ℕ)) → RewrittenBody (Value ℕ) Limit → Type 0
  InPlace k vs c move = (m : ℕ) (e : Term (Value ℕ)) (w after : Inner ℕ S) → RewritesTerm nat_eq modules begins m w e c after
      → RewritesBody nat_eq modules begins m w (plug (values nat_eq) k vs e) move after

  -- a rewriting of a part is one of what it stands in
  pub record PartsRewrite : Type 0 where
    pub goes : (k : Kont) (vs : List (Value ℕ)) (f : Term (Value ℕ)) → HasRoom k vs
        → InPlace k vs (Goes f) (On (Goes (plug (values nat_eq) k vs f)))
    pub leaves : (k : Kont) (vs : List (Value ℕ)) (v : Value ℕ) → HasRoom k vs → InPlace k vs (Leaves v) (On (Leaves v))
    pub calls : (k : Kont) (vs : List (Value ℕ)) (g : Value ℕ) (us : List (Value ℕ)) (f : Term (Value ℕ)) → HasRoom k vs
        → InPlace k vs (Calls g us f) (On (Calls g us (plug (values nat_eq) k vs f)))
    pub stops : (k : Kont) (vs : List (Value ℕ)) (why : Limit) → HasRoom k vs → InPlace k vs (Stops why) (On (Stops why))

  -- a place whose first operation isn't its own has the row of one whose it is, which takes the operands that there are, and
  -- what remains leads there
  pub record Settles : Type 0 where
    pub row : (s : Spot) (vs : List (Value ℕ)) → spot_row (settle s vs).spot ≡ spot_row s
    pub own : (s : Spot) (vs : List (Value ℕ)) → SpotHasRoom s vs → IsOwn (settle s vs).spot
    pub room : (s : Spot) (vs : List (Value ℕ)) → SpotHasRoom s vs → SpotHasRoom (settle s vs).spot (settle s vs).operands
    pub leads : (m : ℕ) (names : List (List (Option (Value ℕ)))) (w : State ℕ S) (s : Spot) (vs : List (Value ℕ)) → SpotHasRoom s vs
        → Leads nat_eq modules begins m w (rest_at (values nat_eq) s names vs) w
        (rest_at (values nat_eq) (settle s vs).spot names (settle s vs).operands)

-- the first operation of a place tells which it is, where it is its own
abbrev pub Tells : Type 0
Tells = (s : Spot) (op : o) (c : Row) → IsOwn s → spot_row s ≡ op ∷ c → Told op c s
