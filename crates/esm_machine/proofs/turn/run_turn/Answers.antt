use Rattle.esm_ast.specs.Outcome.{outcome_view}
use Rattle.esm_machine.proofs.TurnJobs.{turn_goes_on, turn_stops}
use Rattle.esm_machine.proofs.turn.run_turn.Goals as goal

pub returns-in-Ok-clause-turn : goal.returns-in-Ok-clause-turn
returns-in-Ok-clause-turn c =
    turn_goes_on c.args.parts.now c.arrive.new.parts c.run_tasks.new.parts c.args.url.now (outcome_view c.args.outcome.now) c.run_tasks.result c.in-Ok.ensures.fetched c.run_tasks.ensures.tasks

pub returns-in-Err-clause-turn : goal.returns-in-Err-clause-turn
returns-in-Err-clause-turn c =
    turn_stops c.args.parts.now c.arrive.new.parts c.arrive.new.parts c.args.url.now (outcome_view c.args.outcome.now) c.in-Err.end c.in-Err.ensures.fetched
