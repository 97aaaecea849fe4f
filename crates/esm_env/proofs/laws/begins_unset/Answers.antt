use Rattle.esm_env.proofs.OneRead as lemmas
use Rattle.esm_env.proofs.laws.begins_unset.Goals as goal

pub returns : goal.returns
returns c = lemmas.begins_unset
