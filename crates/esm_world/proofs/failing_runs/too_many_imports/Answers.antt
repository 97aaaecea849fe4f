use Rattle.esm_world.proofs.runs.ManyImports.{too_many_imports}
use Rattle.esm_world.proofs.failing_runs.too_many_imports.Goals as goal

pub returns : goal.returns
returns c = too_many_imports
