use Rattle.esm_world.proofs.runs.BrokenEntry.{bare_specifier}
use Rattle.esm_world.proofs.failing_runs.bare_specifier.Goals as goal

pub returns : goal.returns
returns c = bare_specifier
