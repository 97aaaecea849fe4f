use Rattle.esm_env.proofs.PlacedLemmas as lemmas
use Rattle.esm_env.proofs.laws.places_right.Goals as goal

pub returns : goal.returns
returns c = lemmas.places_right
