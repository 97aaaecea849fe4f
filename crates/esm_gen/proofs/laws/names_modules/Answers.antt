use Rattle.esm_gen.proofs.Usable.{usable}
use Rattle.esm_gen.proofs.laws.names_modules.Goals as goal

pub returns : goal.returns
returns c = usable
