use Rattle.std.proofs.Common.{◌≡◌, ◌++◌, [], ◌∷◌, Some, length, slice_get, refl, ap}
use Rattle.esm_values.specs.Code.{CodeValue}
use Rattle.esm_eval.specs.Nodes as nodes
use Rattle.esm_eval.specs.Table.{node_of}
use Rattle.esm_eval.proofs.Inner.Tables as tables
use Rattle.esm_eval.proofs.Inner.Growth as growth
use Rattle.esm_eval.proofs.nodes.Nodes.push_waiter.Goals as goal

pub returns-clause-ok : goal.returns-clause-ok
returns-clause-ok c =
    let ns = c.self.inside.nodes.items in
    let stamps = c.self.inside.stamps.items in
    let at : slice_get ns c.args.x ≡ Some c.index_mut-node.result.now = tables.reads ns (length ns) c.args.x c.index_mut-node.result.now refl (tables.bound ns stamps c.args.self.now c.args.x c.self.view_is c.requires.has) c.index_mut-node.ensures.value in
    let old = c.index_mut-node.result.now in
    rw (← c.self.view_is) (tables.writes (λ (n : nodes.Node _ CodeValue). record n { waiters = n.waiters ++ c.args.y ∷ [] }) ns stamps c.args.x old (record old { waiters = c.push.new.self }) at (ap (λ l. record (node_of old) { waiters = l }) c.in_ok-push.ensures.items))

pub invariant_of-self-2 : goal.invariant_of-self-2
invariant_of-self-2 c =
    let ns = c.self.inside.nodes.items in
    let stamps = c.self.inside.stamps.items in
    let at : slice_get ns c.args.x ≡ Some c.index_mut-node.result.now = tables.reads ns (length ns) c.args.x c.index_mut-node.result.now refl (tables.bound ns stamps c.args.self.now c.args.x c.self.view_is c.requires.has) c.index_mut-node.ensures.value in
    let old = c.index_mut-node.result.now in
    let kept = c.self.invariant.bounded c.args.x old at in
    let more = growth.one_more (length ns) old.waiters.items c.args.y kept.waiters (tables.bound ns stamps c.args.self.now c.args.y c.self.view_is c.requires.other) c.push.new.self.items c.in_ok-push.ensures.items in
    tables.keeps ns stamps c.args.x old (record old { waiters = c.push.new.self }) c.self.invariant at (record { root = kept.root; waiters = more; waits = kept.waits }) refl (record { gone = refl; same = refl; stays = λ h. h })

pub invariant_of-self : goal.invariant_of-self
invariant_of-self c =
    let ns = c.self.inside.nodes.items in
    let stamps = c.self.inside.stamps.items in
    let at : slice_get ns c.args.x ≡ Some c.index_mut-node.result.now = tables.reads ns (length ns) c.args.x c.index_mut-node.result.now refl (tables.bound ns stamps c.args.self.now c.args.x c.self.view_is c.requires.has) c.index_mut-node.ensures.value in
    let old = c.index_mut-node.result.now in
    let kept = c.self.invariant.bounded c.args.x old at in
    tables.keeps ns stamps c.args.x old (record old { waiters = c.push.new.self }) c.self.invariant at (record { root = kept.root; waiters = growth.same_lists (length ns) old.waiters.items c.push.new.self.items kept.waiters c.in_err-push.ensures.items; waits = kept.waits }) refl (record { gone = refl; same = refl; stays = λ h. h })

pub returns-clause-size : goal.returns-clause-size
returns-clause-size c = tables.size_set c.self.inside.nodes.items c.self.inside.stamps.items c.self.inside.stamps.items c.args.self.now c.args.x _ c.self.view_is

pub returns-in_err-push-clause-size : goal.returns-in_err-push-clause-size
returns-in_err-push-clause-size c = tables.size_set c.self.inside.nodes.items c.self.inside.stamps.items c.self.inside.stamps.items c.args.self.now c.args.x _ c.self.view_is
