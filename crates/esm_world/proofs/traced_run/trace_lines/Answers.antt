use Rattle.esm_world.proofs.runs.Traced.{trace_lines}
use Rattle.esm_world.proofs.traced_run.trace_lines.Goals as goal

pub returns : goal.returns
returns c = trace_lines
