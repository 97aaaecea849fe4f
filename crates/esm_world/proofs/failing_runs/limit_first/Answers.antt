use Rattle.esm_world.proofs.runs.LimitFirst.{limit_first}
use Rattle.esm_world.proofs.failing_runs.limit_first.Goals as goal

pub returns : goal.returns
returns c = limit_first
