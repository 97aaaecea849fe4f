use Rattle.esm_machine.proofs.Chains.{tasks_begin, tasks_end, tasks_go_on, tasks_stop}
use Rattle.esm_machine.proofs.turn.run_tasks.Goals as goal

pub loop-end-init : goal.loop-end-init
loop-end-init c = record { sound = c.requires.sound; completes = λ w live. tasks_begin c.args.parts.now w live }

pub loop-end-preserved : goal.loop-end-preserved
loop-end-preserved c = record {
  sound = c.in-Ok-true.ensures.sound;
  completes = λ w live. let m = c.loop-end.invariant.completes w live in tasks_go_on c.loop-end.parts c.run_task.new.parts w m c.in-Ok-true.field-0 c.in-Ok-true.field-0-test (c.in-Ok-true.ensures.task m.mid m.live);
}

pub returns-in-Ok-false-clause-tasks : goal.returns-in-Ok-false-clause-tasks
returns-in-Ok-false-clause-tasks c = λ w live.
    let m = c.loop-end.invariant.completes w live in
    tasks_end c.loop-end.parts c.run_task.new.parts w m c.in-Ok-false.field-0 c.in-Ok-false.field-0-test (c.in-Ok-false.ensures.task m.mid m.live)

pub returns-in-Err-clause-tasks : goal.returns-in-Err-clause-tasks
returns-in-Err-clause-tasks c = λ w live.
    let m = c.loop-end.invariant.completes w live in
    tasks_stop c.loop-end.parts c.run_task.new.parts w m c.in-Err.end (c.in-Err.ensures.task m.mid m.live)
