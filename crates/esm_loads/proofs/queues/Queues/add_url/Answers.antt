use Rattle.std.proofs.Common.{sym, subst}
use Rattle.esm_loads.specs.Inner.Counts.{AreCounted}
use Rattle.esm_loads.proofs.Counts.{counted_url}
use Rattle.esm_loads.proofs.queues.Queues.add_url.Goals as goal

pub invariant_of-self-2 : goal.invariant_of-self-2
invariant_of-self-2 c = subst (λ qs. AreCounted qs c.self.inside.counts.items) (sym c.in_ok-push.ensures.items) (counted_url c.self.inside.queues.items c.self.inside.counts.items c.new.result c.self.invariant c.new.ensures.items)
