use Rattle.esm_loads.proofs.Worked.{mapped_import}
use Rattle.esm_loads.proofs.examples.mapped_import.Goals as goal

pub returns : goal.returns
returns c = mapped_import
