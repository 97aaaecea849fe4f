use Rattle.esm_eval.proofs.runs.Fallen.{root_fails}
use Rattle.esm_eval.proofs.examples.root_fails.Goals as goal

pub returns : goal.returns
returns c = root_fails
