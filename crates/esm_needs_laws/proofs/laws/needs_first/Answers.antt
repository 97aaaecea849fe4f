use Rattle.esm_needs_laws.proofs.Needed.{needs_first}
use Rattle.esm_needs_laws.proofs.laws.needs_first.Goals as goal

pub returns : goal.returns
returns c = needs_first c.runs_fit.ensures
