use Rattle.esm_loads.proofs.Orderly.{stays_orderly}
use Rattle.esm_loads.proofs.laws.stays_orderly.Goals as goal

pub returns : goal.returns
returns c = stays_orderly
