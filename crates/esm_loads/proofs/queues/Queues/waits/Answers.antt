use Rattle.std.proofs.Common.{◌<◌, length, ap, ◌∙◌, arith, nat_lt}
use Rattle.std.specs.List.{list_any}
use Rattle.esm_loads.specs.Inner.Requests.{QueuesView, is_of}
use Rattle.esm_loads.proofs.Places.{index_get}
use Rattle.esm_loads.proofs.Counts.{any_pending}
use Rattle.esm_loads.proofs.queues.Queues.waits.Goals as goal

pub returns : goal.returns
returns c =
    let s = c.args.load in
    let within : s < length c.self.inside.counts.items = omega (arith, c.requires, ap (λ (v : QueuesView). v.loads) c.self.view_is) in
    let here = index_get c.self.inside.counts.items s c.index.result.now within c.index.ensures in
    ap (nat_lt 0) (c.self.invariant.counted s c.index.result.now here) ∙ (any_pending s c.self.inside.queues.items ∙ ap (λ (v : QueuesView). list_any (list_any (is_of s)) v.queues) c.self.view_is)
