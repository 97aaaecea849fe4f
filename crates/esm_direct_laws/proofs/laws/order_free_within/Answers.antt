use Rattle.esm_direct_laws.proofs.DirectRuns.{never_stops, order_free_within}
use Rattle.esm_direct_laws.proofs.laws.order_free_within.Goals as goal

pub returns-clause-never : goal.returns-clause-never
returns-clause-never c = never_stops c.shared_set.ensures.agrees c.shared_set.ensures.ends

pub returns-clause-shown : goal.returns-clause-shown
returns-clause-shown c = order_free_within c.shared_set.ensures.agrees c.shared_set.ensures.ends
