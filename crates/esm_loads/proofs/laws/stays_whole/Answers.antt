use Rattle.esm_loads.proofs.Whole.{stays_whole}
use Rattle.esm_loads.proofs.laws.stays_whole.Goals as goal

pub returns : goal.returns
returns c = stays_whole
