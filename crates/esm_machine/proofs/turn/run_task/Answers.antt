use Rattle.esm_machine.proofs.Answering.{behind_sound, falls_task, leads_task, none_task, stops_task}
use Rattle.esm_machine.proofs.turn.run_task.Goals as goal

pub jobs_behind-requires : goal.jobs_behind-requires
jobs_behind-requires c = record {
  sound = behind_sound c.args.parts.now c.step.new.promises c.step.new.errors c.step.new.self c.requires.sound c.in-Ok.answered c.in-Ok.ensures.condition c.in-Ok.ensures.answers c.in-Ok.ensures.unchanged c.in-Ok.ensures.modules
      c.arrivals_are_of_the_world.ensures c.worlds_stay_sound.ensures.steps c.scopes_stay.ensures;
}

pub returns-in-Ok-clause-task : goal.returns-in-Ok-clause-task
returns-in-Ok-clause-task c =
    leads_task c.args.parts.now c.step.new.promises c.step.new.errors c.step.new.self c.requires.sound c.in-Ok.answered c.in-Ok.ensures.condition c.in-Ok.ensures.answers c.in-Ok.ensures.unchanged c.in-Ok.ensures.modules
    c.arrivals_are_of_the_world.ensures c.jobs_behind.result c.jobs_behind.new.parts c.jobs_behind.ensures.jobs

pub returns-in-Ok-clause-falls : goal.returns-in-Ok-clause-falls
returns-in-Ok-clause-falls c =
    falls_task c.args.parts.now c.step.new.promises c.step.new.errors c.step.new.self c.requires.sound c.in-Ok.answered c.in-Ok.ensures.condition c.in-Ok.ensures.answers c.in-Ok.ensures.unchanged c.in-Ok.ensures.modules
    c.arrivals_are_of_the_world.ensures c.fewer_left.ensures c.jobs_behind.result c.jobs_behind.new.parts c.jobs_behind.ensures.jobs

pub returns-in-Ok-clause-none : goal.returns-in-Ok-clause-none
returns-in-Ok-clause-none c =
    none_task c.args.parts.now c.step.new.promises c.step.new.errors c.step.new.self c.requires.sound c.in-Ok.answered c.in-Ok.ensures.condition c.in-Ok.ensures.answers c.in-Ok.ensures.unchanged c.in-Ok.ensures.modules
    c.jobs_behind.result c.jobs_behind.new.parts c.jobs_behind.ensures.jobs

pub returns-in-Err-clause-task : goal.returns-in-Err-clause-task
returns-in-Err-clause-task c =
    stops_task c.args.parts.now c.step.new.promises c.step.new.errors c.step.new.self c.in-Err.end c.in-Err.ensures.condition c.in-Err.ensures.answers c.arrivals_are_of_the_world.ensures
