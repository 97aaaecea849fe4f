use Rattle.esm_world.proofs.runs.AbsentEntry.{entry_absent}
use Rattle.esm_world.proofs.failing_runs.entry_absent.Goals as goal

pub returns : goal.returns
returns c = entry_absent
