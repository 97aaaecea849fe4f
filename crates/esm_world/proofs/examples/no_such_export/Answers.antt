use Rattle.esm_world.proofs.runs.MissingExport.{no_such_export}
use Rattle.esm_world.proofs.examples.no_such_export.Goals as goal

pub returns : goal.returns
returns c = no_such_export
