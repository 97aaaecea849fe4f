-- Over modules that are as bodies rely on, import() has one outcome, which keeps what fits: so do bodies.
use Rattle.std.proofs.Common.{◌≡◌, ℕ, Bool, true, false}
use Rattle.std.specs.Prelude.{Result, nat_eq}
use Rattle.esm_base.specs.declared.limits.Limit.{Limit}
use Rattle.esm_resolve.specs.SharedSet.{SharedSetAgrees, SharedSetEnds}
use Rattle.esm_values.specs.Value.{Value}
use Rattle.esm_values.specs.Ran.{Ran}
use Rattle.esm_promise.specs.Promises.{Settled}
use Rattle.esm_promise.specs.Outer.{Outer}
use Rattle.esm_env.specs.Modules.{Modules, entries}
use Rattle.esm_expr_eval.specs.Ready.{Holds}
use Rattle.esm_rewriting.specs.State.{State, Importing}
use Rattle.esm_rewriting.specs.Bodies.{StartsBody, RunsBody, ResumesBody, given_by}
use Rattle.esm_rewriting.specs.Fits.{Knows, FitsState, FitsAfter}
use Rattle.esm_body.specs.Importers.{ImportsAreLawful}
use Rattle.esm_body.proofs.Lawful.{begins_some, begins_one}
use Rattle.esm_rewriting.proofs.OneAct.{BeginsOne}
use Rattle.esm_rewriting.proofs.SomeAct.{BeginsSome}
use Rattle.esm_rewriting.proofs.SomeBody.{RanKnown}
use Rattle.esm_rewriting.proofs.FitOutcomes.{start_fits, run_fits, resume_fits}

module _ {I : Type 0} (modules : I → Modules ℕ) (linked : I → ℕ → Bool) (fits : Outer ℕ I → Type 0) (begins : Importing ℕ I) (agrees : SharedSetAgrees) (ends : SharedSetEnds) (lawful : ImportsAreLawful modules linked fits begins) where
  pub lawful_one : BeginsOne begins
  lawful_one = begins_one modules linked fits begins lawful

  pub lawful_some : BeginsSome modules linked fits begins
  lawful_some = begins_some modules linked fits begins lawful agrees ends

  abbrev W : Type 0
  W = State ℕ I

  pub lawful_start : (w : W) (m done : ℕ) (end : Result (Unit {0}) Limit) (after : W) → FitsState modules linked fits w → linked w.outer.imports m ≡ true → StartsBody nat_eq modules begins w m done end after → FitsAfter modules linked fits w after
  lawful_start w m done end after f home p = start_fits nat_eq modules linked fits begins lawful_some lawful_one w m done end after f home p

  pub lawful_run : (w : W) (m : ℕ) (end : Result (Ran (Value ℕ)) Limit) (after : W) → FitsState modules linked fits w → linked w.outer.imports m ≡ true → (entries (modules w.outer.imports) m).awaits ≡ false → RunsBody nat_eq modules begins w m end after
      → FitsAfter modules linked fits w after × RanKnown nat_eq modules linked fits begins lawful_some after.outer.imports end
  lawful_run w m end after f home a p = run_fits nat_eq modules linked fits begins lawful_some lawful_one w m end after f home a p

  pub lawful_resume : (w : W) (m : ℕ) (how : Settled (Value ℕ)) (end : Result (Unit {0}) Limit) (after : W) → FitsState modules linked fits w → linked w.outer.imports m ≡ true → Holds (Knows modules linked w.outer.imports) ⊥ (given_by how)
      → ResumesBody nat_eq modules begins w m how end after → FitsAfter modules linked fits w after
  lawful_resume w m how end after f home g p = resume_fits nat_eq modules linked fits begins lawful_some lawful_one w m how end after f home g p
