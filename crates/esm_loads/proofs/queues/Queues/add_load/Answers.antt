use Rattle.std.proofs.Common.{sym, subst}
use Rattle.esm_loads.specs.Inner.Counts.{AreCounted}
use Rattle.esm_loads.proofs.Counts.{counted_load}
use Rattle.esm_loads.proofs.queues.Queues.add_load.Goals as goal

pub invariant_of-self-2 : goal.invariant_of-self-2
invariant_of-self-2 c = subst (AreCounted c.self.inside.queues.items) (sym c.in_ok-push.ensures.items) (counted_load c.self.inside.queues.items c.self.inside.counts.items c.self.invariant)
