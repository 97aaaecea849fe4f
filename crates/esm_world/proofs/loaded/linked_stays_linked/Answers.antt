use Rattle.esm_world.proofs.LoadedFits.{linked_stays_linked}
use Rattle.esm_world.proofs.loaded.linked_stays_linked.Goals as goal

pub returns : goal.returns
returns c = linked_stays_linked
