use Rattle.esm_world.proofs.LoadedFits.{loaded_are_linked}
use Rattle.esm_world.proofs.loaded.loaded_are_linked.Goals as goal

pub returns : goal.returns
returns c = loaded_are_linked
