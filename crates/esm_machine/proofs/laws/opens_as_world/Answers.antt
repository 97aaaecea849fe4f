use Rattle.esm_machine.proofs.Opens as lemmas
use Rattle.esm_machine.proofs.laws.opens_as_world.Goals as goal

pub returns : goal.returns
returns c = lemmas.opens_as_world
