use Rattle.esm_loads.proofs.HasLoad.{has_load}
use Rattle.esm_loads.proofs.laws.has_load.Goals as goal

pub returns : goal.returns
returns c = has_load
