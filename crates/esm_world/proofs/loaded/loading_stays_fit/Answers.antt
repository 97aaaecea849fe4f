use Rattle.esm_world.proofs.LoadedFits.{loading_stays_fit}
use Rattle.esm_world.proofs.loaded.loading_stays_fit.Goals as goal

pub returns : goal.returns
returns c = loading_stays_fit
