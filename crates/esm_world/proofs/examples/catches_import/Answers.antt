use Rattle.esm_world.proofs.runs.CaughtImport.{catches_import}
use Rattle.esm_world.proofs.examples.catches_import.Goals as goal

pub returns : goal.returns
returns c = catches_import
