use Rattle.esm_machine.proofs.Tells as lemmas
use Rattle.esm_machine.proofs.laws.opening_represents.Goals as goal

pub returns : goal.returns
returns c = lemmas.opening_represents
