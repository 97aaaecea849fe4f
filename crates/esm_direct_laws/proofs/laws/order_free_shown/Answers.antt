use Rattle.esm_direct_laws.proofs.DirectRuns.{order_free_shown}
use Rattle.esm_direct_laws.proofs.laws.order_free_shown.Goals as goal

pub returns : goal.returns
returns c = order_free_shown c.shared_set.ensures.agrees c.shared_set.ensures.ends
