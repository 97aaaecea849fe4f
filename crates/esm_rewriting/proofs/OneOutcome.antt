-- The laws of one outcome, where import() is a function.
use Rattle.std.proofs.Common.{◌≡◌, ℕ, List, ap, sym, ◌∙◌}
use Rattle.std.specs.Prelude.{nat_eq, Result}
use Rattle.esm_base.specs.declared.limits.Limit.{Limit}
use Rattle.esm_rewriting.specs.Laws.{Around, Importer, imports_by, itself, HaveOneOutcome}
use Rattle.esm_rewriting.proofs.OneAct.{BeginsOne}
use Rattle.esm_rewriting.proofs.OneMove.{moves_one}
use Rattle.esm_rewriting.proofs.OneSegment.{runs_one, starts_body_one, runs_body_one, resumes_body_one}

module _ (f : Importer) where
  once : {o x y : Around} {m : ℕ} {text : List ℕ} {p : ℕ} {r s : Result (Unit {0}) Limit} → imports_by f o m text p r x → imports_by f o m text p s y → (s ≡ r) × (y ≡ x)
  once p q = let e = sym q ∙ p in (ap (λ t. t.0) e, ap (λ t. t.1) e)

  pub one_import : BeginsOne (imports_by f)
  one_import = record { one = once }

pub have_one_outcome : HaveOneOutcome
have_one_outcome = record {
  rewriting = λ f m w one other r a b p q. moves_one nat_eq itself (imports_by f) (one_import f) m p q;
  segment = λ f m w one other r callers a b p q. runs_one nat_eq itself (imports_by f) (one_import f) p q;
  start = λ f m done w one other a b p q. starts_body_one nat_eq itself (imports_by f) (one_import f) p q;
  run = λ f m w one other a b p q. runs_body_one nat_eq itself (imports_by f) (one_import f) p q;
  resume = λ f m how w one other a b p q. resumes_body_one nat_eq itself (imports_by f) (one_import f) p q;
}
