use Rattle.esm_world.proofs.runs.BrokenEntry.{no_module_text}
use Rattle.esm_world.proofs.failing_runs.no_module_text.Goals as goal

pub returns : goal.returns
returns c = no_module_text
