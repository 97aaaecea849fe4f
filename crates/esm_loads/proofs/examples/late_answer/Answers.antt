use Rattle.esm_loads.proofs.Worked.{late_answer}
use Rattle.esm_loads.proofs.examples.late_answer.Goals as goal

pub returns : goal.returns
returns c = late_answer
