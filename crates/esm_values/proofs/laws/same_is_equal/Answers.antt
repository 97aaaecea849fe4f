use Rattle.esm_values.proofs.Equal as lemmas
use Rattle.esm_values.proofs.laws.same_is_equal.Goals as goal

pub returns : goal.returns
returns c = lemmas.same_is_equal
