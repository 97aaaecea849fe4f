use Rattle.esm_machine.proofs.Tells as lemmas
use Rattle.esm_machine.proofs.laws.tells_the_run.Goals as goal

pub returns : goal.returns
returns c = lemmas.tells_the_run
