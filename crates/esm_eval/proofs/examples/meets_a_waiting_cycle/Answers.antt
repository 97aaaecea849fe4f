use Rattle.esm_eval.proofs.runs.Meeting.{meets_a_waiting_cycle}
use Rattle.esm_eval.proofs.examples.meets_a_waiting_cycle.Goals as goal

pub returns : goal.returns
returns c = meets_a_waiting_cycle
