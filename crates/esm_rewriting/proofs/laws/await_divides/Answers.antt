use Rattle.esm_rewriting.proofs.Examples as lemmas
use Rattle.esm_rewriting.proofs.laws.await_divides.Goals as goal

pub returns : goal.returns
returns c = lemmas.await_divides
