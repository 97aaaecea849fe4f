use Rattle.esm_loads.proofs.Limits.{limit_stops}
use Rattle.esm_loads.proofs.laws.limit_stops.Goals as goal

pub returns : goal.returns
returns c = limit_stops
