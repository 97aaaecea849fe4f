use Rattle.esm_rewriting.proofs.Outcomes.{has_segment}
use Rattle.esm_rewriting.proofs.laws.has_segment.Goals as goal

pub returns : goal.returns
returns c = has_segment c.shared_set.ensures.agrees c.shared_set.ensures.ends
