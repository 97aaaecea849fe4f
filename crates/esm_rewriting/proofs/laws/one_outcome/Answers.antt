use Rattle.esm_rewriting.proofs.OneOutcome.{have_one_outcome}
use Rattle.esm_rewriting.proofs.laws.one_outcome.Goals as goal

pub returns : goal.returns
returns c = have_one_outcome
