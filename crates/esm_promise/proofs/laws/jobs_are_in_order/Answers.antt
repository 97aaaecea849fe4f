use Rattle.esm_promise.proofs.InOrder as lemmas
use Rattle.esm_promise.proofs.laws.jobs_are_in_order.Goals as goal

pub returns : goal.returns
returns c = lemmas.jobs_are_in_order
