-- In a state that fits, whatever a segment or a call for a body comes to fits: it has an outcome that does, and has only one.
use Rattle.std.proofs.Common.{◌≡◌, ℕ, Bool, true, false, List, subst, sym}
use Rattle.std.specs.Prelude.{Result}
use Rattle.esm_base.specs.declared.limits.Limit.{Limit}
use Rattle.esm_values.specs.Value.{Value}
use Rattle.esm_values.specs.Ran.{Ran}
use Rattle.esm_promise.specs.Promises.{Settled}
use Rattle.esm_promise.specs.Outer.{Outer}
use Rattle.esm_env.specs.Modules.{Modules, entries}
use Rattle.esm_expr_eval.specs.Ready.{Holds}
use Rattle.esm_rewriting.specs.Rest.{Rest}
use Rattle.esm_rewriting.specs.State.{State, Importing}
use Rattle.esm_rewriting.specs.Segment.{Active, Ended, Segment}
use Rattle.esm_rewriting.specs.Bodies.{StartsBody, RunsBody, ResumesBody, given_by}
use Rattle.esm_rewriting.specs.Fits.{Knows, FitsState, FitsRun, FitsEnd, FitsAfter}
use Rattle.esm_rewriting.proofs.OneAct.{BeginsOne}
use Rattle.esm_rewriting.proofs.OneSegment.{runs_one, starts_body_one, runs_body_one, resumes_body_one}
use Rattle.esm_rewriting.proofs.SomeAct.{BeginsSome}
use Rattle.esm_rewriting.proofs.SomeSegment.{some_segment}
use Rattle.esm_rewriting.proofs.SomeBody.{RanKnown, some_start, some_run, some_resume}

module _ {N I : Type 0} (same : N → N → Bool) (modules : I → Modules N) (linked : I → N → Bool) (Whole : Outer N I → Type 0) (begins : Importing N I) (some : BeginsSome modules linked Whole begins) (one : BeginsOne begins) where
  abbrev W : Type 0
  W = State N I

  abbrev Stays : W → W → Type 0
  Stays w after = FitsAfter modules linked Whole w after

  pub segment_fits : (awaits : Bool) (w : W) (m : N) (r : Rest (Value N)) (cs : List (Active N)) (how : Ended N) (after : W) → FitsRun modules linked Whole w m awaits r cs → Segment same modules begins w m r cs how after
      → FitsEnd modules linked Whole w awaits how after
  segment_fits awaits w m r cs how after f p =
      let s = some_segment same modules linked Whole begins some awaits w m r cs f in
      let e = runs_one same modules begins one s.1.1.0 p in
      let both : (s.0, s.1.0) ≡ (how, after) = λ i. (sym e.0 i, sym e.1 i) in
      subst (λ (x : Ended N × W). FitsEnd modules linked Whole w awaits x.0 x.1) both s.1.1.1

  pub start_fits : (w : W) (m : N) (done : ℕ) (end : Result (Unit {0}) Limit) (after : W) → FitsState modules linked Whole w → linked w.outer.imports m ≡ true → StartsBody same modules begins w m done end after → Stays w after
  start_fits w m done end after f home p =
      let s = some_start same modules linked Whole begins some w m done f home in
      subst (λ v. Stays w v) (sym (starts_body_one same modules begins one s.1.1.0 p).1) s.1.1.1

  pub run_fits : (w : W) (m : N) (end : Result (Ran (Value N)) Limit) (after : W) → FitsState modules linked Whole w → linked w.outer.imports m ≡ true → (entries (modules w.outer.imports) m).awaits ≡ false → RunsBody same modules begins w m end after
      → Stays w after × RanKnown same modules linked Whole begins some after.outer.imports end
  run_fits w m end after f home a p =
      let s = some_run same modules linked Whole begins some w m f home a in
      let e = runs_body_one same modules begins one s.1.1.0 p in
      let both : (s.0, s.1.0) ≡ (end, after) = λ i. (sym e.0 i, sym e.1 i) in
      subst (λ (x : Result (Ran (Value N)) Limit × W). Stays w x.1 × RanKnown same modules linked Whole begins some x.1.outer.imports x.0) both s.1.1.1

  pub resume_fits : (w : W) (m : N) (how : Settled (Value N)) (end : Result (Unit {0}) Limit) (after : W) → FitsState modules linked Whole w → linked w.outer.imports m ≡ true → Holds (Knows modules linked w.outer.imports) ⊥ (given_by how)
      → ResumesBody same modules begins w m how end after → Stays w after
  resume_fits w m how end after f home g p =
      let s = some_resume same modules linked Whole begins some w m p.taken how f home p.stands g in
      subst (λ v. Stays w v) (sym (resumes_body_one same modules begins one s.1.1.0 p).1) s.1.1.1
