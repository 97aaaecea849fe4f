use Rattle.esm_world.proofs.FitLoading.{opening_fits, fetch_fits, answers_fit, relinked}
use Rattle.esm_world.proofs.fits.worlds_fit.Goals as goal

pub returns : goal.returns
returns c = record {
  opens = opening_fits;
  fetches = fetch_fits;
  answers = answers_fit;
  links = λ linked more entries w h g grow f. relinked linked more entries h g grow w f;
}
