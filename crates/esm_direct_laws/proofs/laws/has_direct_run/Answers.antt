use Rattle.esm_direct_laws.proofs.DirectRuns.{has_direct_run}
use Rattle.esm_direct_laws.proofs.laws.has_direct_run.Goals as goal

pub returns : goal.returns
returns c = has_direct_run c.shared_set.ensures.agrees c.shared_set.ensures.ends
