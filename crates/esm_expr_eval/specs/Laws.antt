-- Laws of the definitions, over any world.
use Rattle.std.specs.Prelude.{◌≡◌, ◌⊎◌, ℕ, List, Result}
use Rattle.esm_values.specs.Acts.{Act, AnswerTo}
use Rattle.esm_values.specs.Plans.{Acting, Rewritten}
use Rattle.esm_values.specs.Code.{CodeValue, numbered}
use Rattle.esm_expr_eval.specs.Terms.{Term}
use Rattle.esm_expr_eval.specs.Terms.Term.{Val}
use Rattle.esm_expr_eval.specs.Ready.{IsAtWork}
use Rattle.esm_expr_eval.specs.Rewriting.{Rewrites}
use Rattle.esm_expr_eval.specs.Ends.{TermEnd, Leads}

-- each call on the world has at most one outcome
pub record ActsOnce {W S : Type 0} (acts : Acting W CodeValue S) : Type 0 where
  pub once : (w one other : W) (a : Act CodeValue) (r s : Result (AnswerTo a) S)
      → acts w a r one → acts w a s other → (s ≡ r) × (other ≡ one)

-- then so has a rewriting, and an expression leads to at most one end
pub record RewritesOnce {W S : Type 0} (url : W → List ℕ) (acts : Acting W CodeValue S) : Type 0 where
  pub rewrites : ActsOnce acts → (w one other : W) (t : Term CodeValue) (c d : Rewritten CodeValue S (Term CodeValue))
      → Rewrites numbered url acts w t c one → Rewrites numbered url acts w t d other → (d ≡ c) × (other ≡ one)
  pub leads : ActsOnce acts → (w one other : W) (t : Term CodeValue) (c d : TermEnd CodeValue S)
      → Leads numbered url acts w t c one → Leads numbered url acts w t d other → (d ≡ c) × (other ≡ one)

-- each call on the world has an outcome
abbrev pub ActsAlways : {W S : Type 0} → Acting W CodeValue S → Type 0
ActsAlways {W} {S} acts = (w : W) (a : Act CodeValue) → (r : Result (AnswerTo a) S) × ((after : W) × acts w a r after)

-- then what remains of an expression, where no call is under way in it, is a value or has a rewriting, and leads to an end
pub record HasRewriting {W S : Type 0} (url : W → List ℕ) (acts : Acting W CodeValue S) : Type 0 where
  pub rewrites : ActsAlways acts → (w : W) (t : Term CodeValue) → IsAtWork t
      → ((v : CodeValue) × (t ≡ Val v))
      ⊎ ((c : Rewritten CodeValue S (Term CodeValue)) × ((after : W) × Rewrites numbered url acts w t c after))
  pub leads : ActsAlways acts → (w : W) (t : Term CodeValue) → IsAtWork t
      → (end : TermEnd CodeValue S) × ((after : W) × Leads numbered url acts w t end after)
