use Rattle.esm_loads.proofs.Limits.{ended_load_stays}
use Rattle.esm_loads.proofs.laws.ended_load_stays.Goals as goal

pub returns : goal.returns
returns c = ended_load_stays
