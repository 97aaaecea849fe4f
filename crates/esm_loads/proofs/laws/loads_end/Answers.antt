use Rattle.esm_loads.proofs.Whole.{loads_end}
use Rattle.esm_loads.proofs.laws.loads_end.Goals as goal

pub returns : goal.returns
returns c = loads_end
