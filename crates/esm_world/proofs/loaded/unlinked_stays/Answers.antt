use Rattle.esm_world.proofs.UnlinkedGrows.{unlinked_stays}
use Rattle.esm_world.proofs.loaded.unlinked_stays.Goals as goal

pub returns : goal.returns
returns c = unlinked_stays
