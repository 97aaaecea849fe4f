use Rattle.esm_promise.proofs.Settling as lemmas
use Rattle.esm_promise.proofs.laws.jobs_are_of_settled.Goals as goal

pub returns : goal.returns
returns c = lemmas.jobs_are_of_settled
