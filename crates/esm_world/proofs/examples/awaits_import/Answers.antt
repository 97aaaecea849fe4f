use Rattle.esm_world.proofs.runs.AwaitedImport.{awaits_import}
use Rattle.esm_world.proofs.examples.awaits_import.Goals as goal

pub returns : goal.returns
returns c = awaits_import
