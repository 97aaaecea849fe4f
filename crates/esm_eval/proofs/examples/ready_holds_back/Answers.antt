use Rattle.esm_eval.proofs.runs.Held.{ready_holds_back}
use Rattle.esm_eval.proofs.examples.ready_holds_back.Goals as goal

pub returns : goal.returns
returns c = ready_holds_back
