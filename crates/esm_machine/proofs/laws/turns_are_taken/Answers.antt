use Rattle.esm_machine.proofs.Tells as lemmas
use Rattle.esm_machine.proofs.laws.turns_are_taken.Goals as goal

pub returns : goal.returns
returns c = lemmas.turns_are_taken
