use Rattle.esm_world.proofs.LoadedFits.{has_link}
use Rattle.esm_world.proofs.loaded.has_link.Goals as goal

pub returns : goal.returns
returns c = has_link c.shared_set.ensures.agrees c.shared_set.ensures.ends
