-- A value is used for a purpose that was read.
use Rattle.std.proofs.Common.{◌≡◌, ℕ, Bool, subst, sym}
use Rattle.std.specs.Prelude.{Result}
use Rattle.esm_promise.specs.Outer.{Outer}
use Rattle.esm_env.specs.Modules.{Modules}
use Rattle.esm_rewriting.specs.State.{Importing}
use Rattle.esm_body.specs.Code.{IsUse}
use Rattle.esm_body.specs.Inner.Turn.{used, MayTurn, Turned}
use Rattle.esm_body.specs.declared.inside.Inside.{Inside}
use Rattle.esm_rewriting.specs.declared.stop.Stop.{Stop}
use Rattle.esm_body.specs.declared.turn.Outcome.{Outcome}
use Rattle.esm_body.specs.declared.work.Use.{Use}
use Rattle.esm_values.specs.declared.value.Value.{Value}

pub is_as : (n : ℕ) (p q : Use) → p ≡ q → IsUse n p → IsUse n q
is_as n p q e h = subst (λ r. IsUse n r) e h

module _ {I S : Type 0} (seen : I → S) (modules : S → Modules ℕ) (linked : S → ℕ → Bool) (fits : Outer ℕ S → Type 0) (begins : Importing ℕ S) where
  pub may_as : (w : Inside I) (v : Value) (p q : Use) → p ≡ q → MayTurn seen modules linked fits begins w (used w.code.now p v) → MayTurn seen modules linked fits begins w (used w.code.now q v)
  may_as w v p q e h = subst (λ r. MayTurn seen modules linked fits begins w (used w.code.now r v)) e h

  pub turned_as : (w after : Inside I) (v : Value) (p q : Use) (result : Result Outcome Stop) → p ≡ q → Turned seen modules linked fits begins w (used w.code.now q v) result after → Turned seen modules linked fits begins w (used w.code.now p v) result after
  turned_as w after v p q result e h = subst (λ r. Turned seen modules linked fits begins w (used w.code.now r v) result after) (sym e) h
