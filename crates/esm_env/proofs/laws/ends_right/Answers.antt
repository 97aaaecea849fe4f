use Rattle.esm_env.proofs.LocalLemmas as lemmas
use Rattle.esm_env.proofs.laws.ends_right.Goals as goal

pub returns : goal.returns
returns c = lemmas.ends_right
