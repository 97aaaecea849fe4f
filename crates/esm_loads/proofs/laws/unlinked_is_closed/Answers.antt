use Rattle.esm_loads.proofs.Whole.{unlinked_is_closed}
use Rattle.esm_loads.proofs.laws.unlinked_is_closed.Goals as goal

pub returns : goal.returns
returns c = unlinked_is_closed
