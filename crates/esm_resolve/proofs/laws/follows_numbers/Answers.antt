use Rattle.esm_resolve.proofs.Renumbered as lemmas
use Rattle.esm_resolve.proofs.laws.follows_numbers.Goals as goal

pub returns : goal.returns
returns c = lemmas.follows_numbers
