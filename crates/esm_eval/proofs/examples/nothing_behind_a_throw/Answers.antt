use Rattle.esm_eval.proofs.runs.Beside.{nothing_behind_a_throw}
use Rattle.esm_eval.proofs.examples.nothing_behind_a_throw.Goals as goal

pub returns : goal.returns
returns c = nothing_behind_a_throw
