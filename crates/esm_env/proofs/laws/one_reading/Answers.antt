use Rattle.esm_env.proofs.OneRead as lemmas
use Rattle.esm_env.proofs.laws.one_reading.Goals as goal

pub returns : goal.returns
returns c = lemmas.one_reading
