use Rattle.esm_machine.proofs.Following as lemmas
use Rattle.esm_machine.proofs.laws.linking_is_of_the_world.Goals as goal

pub returns : goal.returns
returns c = lemmas.linking_is_of_the_world
