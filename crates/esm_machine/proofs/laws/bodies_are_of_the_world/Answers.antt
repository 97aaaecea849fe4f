use Rattle.esm_machine.proofs.Following as lemmas
use Rattle.esm_machine.proofs.laws.bodies_are_of_the_world.Goals as goal

pub returns : goal.returns
returns c = lemmas.bodies_are_of_the_world
