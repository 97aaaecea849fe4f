use Rattle.esm_values.proofs.Texts as lemmas
use Rattle.esm_values.proofs.laws.displays_one.Goals as goal

pub returns : goal.returns
returns c = lemmas.displays_one
