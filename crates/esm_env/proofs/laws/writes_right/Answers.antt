use Rattle.esm_env.proofs.WrittenLemmas as lemmas
use Rattle.esm_env.proofs.laws.writes_right.Goals as goal

pub returns : goal.returns
returns c = lemmas.writes_right
