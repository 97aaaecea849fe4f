use Rattle.esm_promise.proofs.Settling as lemmas
use Rattle.esm_promise.proofs.laws.settles_once.Goals as goal

pub returns : goal.returns
returns c = lemmas.settles_once
