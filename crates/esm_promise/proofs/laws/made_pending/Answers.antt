use Rattle.esm_promise.proofs.InOrder as lemmas
use Rattle.esm_promise.proofs.laws.made_pending.Goals as goal

pub returns : goal.returns
returns c = lemmas.made_pending
