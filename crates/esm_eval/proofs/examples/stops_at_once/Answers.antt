use Rattle.esm_eval.proofs.runs.Stopped.{stops_at_once}
use Rattle.esm_eval.proofs.examples.stops_at_once.Goals as goal

pub returns : goal.returns
returns c = stops_at_once
