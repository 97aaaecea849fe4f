use Rattle.esm_rewriting.proofs.Limits as lemmas
use Rattle.esm_rewriting.proofs.laws.stops_are_not_caught.Goals as goal

pub returns : goal.returns
returns c = lemmas.stops_are_not_caught
