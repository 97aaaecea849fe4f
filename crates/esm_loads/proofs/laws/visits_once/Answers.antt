use Rattle.esm_loads.proofs.Limits.{visits_once}
use Rattle.esm_loads.proofs.laws.visits_once.Goals as goal

pub returns : goal.returns
returns c = visits_once
