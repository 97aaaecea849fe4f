use Rattle.std.proofs.Common.{arith, sym, ◌∙◌}
use Rattle.esm_machine.proofs.Chains.{job_ends, job_goes_on, job_stops, jobs_begin, jobs_step}
use Rattle.esm_machine.proofs.Lowers.{falls_before, job_falls, rises_behind, steps_in}
use Rattle.esm_machine.proofs.jobs.run_to_step.Goals as goal

pub loop-parts-init : goal.loop-parts-init
loop-parts-init c = record {
  sound = c.requires.sound;
  completes = λ w live. jobs_begin c.args.parts.now w live;
  before = c.steps-before.ensures;
  more = omega arith;
}

pub loop-parts-smaller : goal.loop-parts-smaller
loop-parts-smaller c =
    let s = c.loop-parts.invariant.sound in
    let f = job_falls c.jobs_lower.ensures c.loop-parts.parts c.run_job.new.parts s c.in-Ok-true.field-0 c.in-Ok-true.field-0-test (c.in-Ok-true.ensures.job s.world s.live) in
    falls_before c.steps-before.result c.loop-parts.parts c.run_job.new.parts f (sym c.steps.ensures ∙ c.loop-parts-test.true)

pub loop-parts-preserved : goal.loop-parts-preserved
loop-parts-preserved c =
    let s = c.loop-parts.invariant.sound in
    let f = job_falls c.jobs_lower.ensures c.loop-parts.parts c.run_job.new.parts s c.in-Ok-true.field-0 c.in-Ok-true.field-0-test (c.in-Ok-true.ensures.job s.world s.live) in
    record {
      sound = c.in-Ok-true.ensures.sound;
      completes = λ w live. let m = c.loop-parts.invariant.completes w live in job_goes_on c.loop-parts.parts c.run_job.new.parts w m c.in-Ok-true.field-0 c.in-Ok-true.field-0-test (c.in-Ok-true.ensures.job m.mid m.live);
      before = c.loop-parts.invariant.before;
      more = let a = f.steps in let b = c.loop-parts.invariant.more in omega (arith, a, b);
    }

pub returns-in-Ok-false-clause-jobs : goal.returns-in-Ok-false-clause-jobs
returns-in-Ok-false-clause-jobs c = λ w live.
    let m = c.loop-parts.invariant.completes w live in
    job_ends c.loop-parts.parts c.run_job.new.parts w m c.in-Ok-false.field-0 c.in-Ok-false.field-0-test (c.in-Ok-false.ensures.job m.mid m.live)

pub returns-in-Err-clause-jobs : goal.returns-in-Err-clause-jobs
returns-in-Err-clause-jobs c = λ w live.
    let m = c.loop-parts.invariant.completes w live in
    job_stops c.loop-parts.parts c.run_job.new.parts w m c.in-Err.end (c.in-Err.ensures.job m.mid m.live)

pub returns-clause-jobs : goal.returns-clause-jobs
returns-clause-jobs c = λ w live. jobs_step c.loop-parts.parts w (c.loop-parts.invariant.completes w live)

pub returns-clause-rises : goal.returns-clause-rises
returns-clause-rises c = λ e.
    rises_behind (steps_in c.args.parts.now) (steps_in c.loop-parts.parts) c.loop-parts.invariant.more (λ h. c.loop-parts-test.false (c.steps.ensures ∙ h ∙ sym c.steps-before.ensures))
