use Rattle.esm_eval.proofs.runs.Shared.{shared_rejection}
use Rattle.esm_eval.proofs.examples.shared_rejection.Goals as goal

pub returns : goal.returns
returns c = shared_rejection
