use Rattle.esm_link.proofs.OwnExports as lemmas
use Rattle.esm_link.proofs.laws.spelled_is_bound.Goals as goal

pub returns : goal.returns
returns c = lemmas.spelled_is_bound
