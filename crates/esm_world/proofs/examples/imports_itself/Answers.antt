use Rattle.esm_world.proofs.runs.SelfImport.{imports_itself}
use Rattle.esm_world.proofs.examples.imports_itself.Goals as goal

pub returns : goal.returns
returns c = imports_itself
