use Rattle.esm_loads.proofs.OneLoad.{one_load}
use Rattle.esm_loads.proofs.laws.one_load.Goals as goal

pub returns : goal.returns
returns c = one_load
