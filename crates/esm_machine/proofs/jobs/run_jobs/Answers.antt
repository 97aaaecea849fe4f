use Rattle.esm_machine.proofs.Chains.{jobs_begin, jobs_end, jobs_go_on, jobs_stop}
use Rattle.esm_machine.proofs.jobs.run_jobs.Goals as goal

pub loop-end-init : goal.loop-end-init
loop-end-init c = record { sound = c.requires.sound; completes = λ w live. jobs_begin c.args.parts.now w live }

pub loop-end-preserved : goal.loop-end-preserved
loop-end-preserved c = record {
  sound = c.in-Ok-true.ensures.sound;
  completes = λ w live. let m = c.loop-end.invariant.completes w live in jobs_go_on c.loop-end.parts c.run_to_step.new.parts w m c.in-Ok-true.field-0 c.in-Ok-true.field-0-test (c.in-Ok-true.ensures.jobs m.mid m.live);
}

pub returns-in-Ok-false-clause-jobs : goal.returns-in-Ok-false-clause-jobs
returns-in-Ok-false-clause-jobs c = λ w live.
    let m = c.loop-end.invariant.completes w live in
    jobs_end c.loop-end.parts c.run_to_step.new.parts w m c.in-Ok-false.field-0 c.in-Ok-false.field-0-test (c.in-Ok-false.ensures.jobs m.mid m.live)

pub returns-in-Err-clause-jobs : goal.returns-in-Err-clause-jobs
returns-in-Err-clause-jobs c = λ w live.
    let m = c.loop-end.invariant.completes w live in
    jobs_stop c.loop-end.parts c.run_to_step.new.parts w m c.in-Err.end (c.in-Err.ensures.jobs m.mid m.live)
