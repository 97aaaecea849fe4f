-- Where the rewriting of an expression ends.
use Rattle.std.specs.Prelude.{ℕ, List}
use Rattle.esm_values.specs.Plans.{Acting}
use Rattle.esm_values.specs.Plans.Rewritten.{Goes, Leaves, Calls, Stops}
use Rattle.esm_values.specs.Operators.{Values}
use Rattle.esm_expr_eval.specs.Terms.{Term}
use Rattle.esm_expr_eval.specs.Terms.Term.{Val}
use Rattle.esm_expr_eval.specs.Rewriting.{Rewrites}

pub data TermEnd (V S : Type 0) : Type 0 where
  Value : (v : V) → TermEnd V S
  Thrown : (v : V) → TermEnd V S
  Call : (f : V) (vs : List V) (rest : Term V) → TermEnd V S
  Stopped : (why : S) → TermEnd V S

module _ {W V S : Type 0} (values : Values V) (url : W → List ℕ) (acts : Acting W V S) where
  -- rewritings up to a value, a throw, a call, or a stop
  pub data Leads : W → Term V → TermEnd V S → W → Type 0 where
    value : {w : W} {v : V} → Leads w (Val v) (Value v) w
    goes : {w mid after : W} {t rest : Term V} {end : TermEnd V S} → Rewrites values url acts w t (Goes rest) mid → Leads mid rest end after
        → Leads w t end after
    throws : {w after : W} {t : Term V} {v : V} → Rewrites values url acts w t (Leaves v) after → Leads w t (Thrown v) after
    calls : {w after : W} {t rest : Term V} {f : V} {vs : List V} → Rewrites values url acts w t (Calls f vs rest) after
        → Leads w t (Call f vs rest) after
    stopped : {w after : W} {t : Term V} {why : S} → Rewrites values url acts w t (Stops why) after → Leads w t (Stopped why) after
