use Rattle.esm_eval.proofs.runs.Ready.{ready_throws}
use Rattle.esm_eval.proofs.examples.ready_throws.Goals as goal

pub returns : goal.returns
returns c = ready_throws
