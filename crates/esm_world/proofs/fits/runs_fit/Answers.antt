use Rattle.esm_world.proofs.RunsSound.{runs_fit}
use Rattle.esm_world.proofs.fits.runs_fit.Goals as goal

pub returns : goal.returns
returns c = runs_fit c.shared_set.ensures.agrees c.shared_set.ensures.ends
