use Rattle.esm_world.proofs.runs.CaughtThrow.{catches_throw}
use Rattle.esm_world.proofs.failing_runs.catches_throw.Goals as goal

pub returns : goal.returns
returns c = catches_throw
