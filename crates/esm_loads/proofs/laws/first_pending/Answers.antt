use Rattle.esm_loads.proofs.Pending.{first_pending}
use Rattle.esm_loads.proofs.laws.first_pending.Goals as goal

pub returns : goal.returns
returns c = first_pending
