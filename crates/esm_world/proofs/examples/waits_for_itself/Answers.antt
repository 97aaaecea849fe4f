use Rattle.esm_world.proofs.runs.SelfImport.{waits_for_itself}
use Rattle.esm_world.proofs.examples.waits_for_itself.Goals as goal

pub returns : goal.returns
returns c = waits_for_itself
