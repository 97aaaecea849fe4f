use Rattle.esm_machine.proofs.Shows as lemmas
use Rattle.esm_machine.proofs.laws.records_show.Goals as goal

pub returns : goal.returns
returns c = lemmas.records_show
