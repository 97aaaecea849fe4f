use Rattle.esm_rewriting.proofs.Outcomes.{have_outcomes}
use Rattle.esm_rewriting.proofs.laws.has_outcomes.Goals as goal

pub returns : goal.returns
returns c = have_outcomes c.shared_set.ensures.agrees c.shared_set.ensures.ends
