use Rattle.esm_eval.proofs.runs.Cycle.{cycle_of_which_one_awaits}
use Rattle.esm_eval.proofs.examples.cycle_of_which_one_awaits.Goals as goal

pub returns : goal.returns
returns c = cycle_of_which_one_awaits
