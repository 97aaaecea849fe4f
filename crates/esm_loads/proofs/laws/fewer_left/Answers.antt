use Rattle.esm_loads.proofs.Pending.{fewer_left}
use Rattle.esm_loads.proofs.laws.fewer_left.Goals as goal

pub returns : goal.returns
returns c = fewer_left
