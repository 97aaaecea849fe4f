use Rattle.std.proofs.Common.{refl}
use Rattle.esm_eval.proofs.Inner.Growth as growth
use Rattle.esm_eval.proofs.nodes.Nodes.add.Goals as goal

pub invariant_of-self-2 : goal.invariant_of-self-2
invariant_of-self-2 c =
    let ns = c.self.inside.nodes.items in
    let stamps = c.self.inside.stamps.items in
    rw (c.in_ok-push.ensures.items, c.in_ok-make_room.ensures)
    (growth.keeps_add ns stamps _ c.self.invariant (growth.fresh _ _ refl c.new-waits.ensures.items c.new-waiters.ensures.items) refl refl)

pub returns-clause-ok : goal.returns-clause-ok
returns-clause-ok c =
    let ns = c.self.inside.nodes.items in
    let stamps = c.self.inside.stamps.items in
    rw (← c.self.view_is, c.in_ok-push.ensures.items, c.in_ok-make_room.ensures)
    (growth.adds ns stamps _ (growth.untouched_by _ _ c.new-waits.ensures.items c.new-waiters.ensures.items))
