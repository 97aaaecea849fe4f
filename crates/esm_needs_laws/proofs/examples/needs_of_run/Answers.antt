use Rattle.esm_needs_laws.proofs.NeededRun.{needs_of_run}
use Rattle.esm_needs_laws.proofs.examples.needs_of_run.Goals as goal

pub returns : goal.returns
returns c = needs_of_run c.trace_lines.ensures
