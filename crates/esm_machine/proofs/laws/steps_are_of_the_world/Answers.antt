use Rattle.esm_machine.proofs.Steps.{steps_are_of_the_world}
use Rattle.esm_machine.proofs.laws.steps_are_of_the_world.Goals as goal

pub returns : goal.returns
returns c = steps_are_of_the_world
