use Rattle.esm_machine.proofs.Opens as lemmas
use Rattle.esm_machine.proofs.laws.loading_is_of_the_world.Goals as goal

pub returns : goal.returns
returns c = lemmas.loading_is_of_the_world
