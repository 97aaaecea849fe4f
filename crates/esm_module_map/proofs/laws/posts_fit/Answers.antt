use Rattle.esm_module_map.proofs.Fits.{posts_fit}
use Rattle.esm_module_map.proofs.laws.posts_fit.Goals as goal

pub returns : goal.returns
returns g c = posts_fit g.P.Payload.weight g.P.Payload.fits
