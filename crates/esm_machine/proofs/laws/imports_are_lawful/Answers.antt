use Rattle.esm_machine.specs.Inner.Lawful as lemmas
use Rattle.esm_machine.proofs.laws.imports_are_lawful.Goals as goal

pub returns : goal.returns
returns c = lemmas.imports_are_lawful
