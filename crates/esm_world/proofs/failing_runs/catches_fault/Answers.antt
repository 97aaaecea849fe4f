use Rattle.esm_world.proofs.runs.CaughtFault.{catches_fault}
use Rattle.esm_world.proofs.failing_runs.catches_fault.Goals as goal

pub returns : goal.returns
returns c = catches_fault
