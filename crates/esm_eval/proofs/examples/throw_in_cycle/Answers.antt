use Rattle.esm_eval.proofs.runs.Thrown.{throw_in_cycle}
use Rattle.esm_eval.proofs.examples.throw_in_cycle.Goals as goal

pub returns : goal.returns
returns c = throw_in_cycle
