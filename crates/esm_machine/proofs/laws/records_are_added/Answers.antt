use Rattle.esm_machine.proofs.Grown as lemmas
use Rattle.esm_machine.proofs.laws.records_are_added.Goals as goal

pub returns : goal.returns
returns c = lemmas.records_are_added
