use Rattle.esm_machine.specs.Inner.Importing as lemmas
use Rattle.esm_machine.proofs.laws.imports_are_there.Goals as goal

pub returns : goal.returns
returns c = lemmas.imports_are_there
