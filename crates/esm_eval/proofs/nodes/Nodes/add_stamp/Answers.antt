use Rattle.std.proofs.Common.{◌≡◌, Some, length, slice_get, refl, ap, ◌∙◌, rules}
use Rattle.esm_eval.proofs.Inner.Tables as tables
use Rattle.esm_eval.proofs.Inner.Growth as growth
use Rattle.esm_eval.proofs.nodes.Nodes.add_stamp.Goals as goal

pub returns-clause-ok : goal.returns-clause-ok
returns-clause-ok c =
    let ns = c.self.inside.nodes.items in
    let stamps = c.self.inside.stamps.items in
    let at : slice_get ns c.args.x ≡ Some c.index_mut.result.now = tables.reads ns (length ns) c.args.x c.index_mut.result.now refl (tables.bound ns stamps c.args.self.now c.args.x c.self.view_is c.requires) c.index_mut.ensures.value in
    rw (← c.self.view_is, c.in_ok-push.ensures.items) (growth.stamps_one ns stamps c.args.x c.index_mut.result.now (record c.index_mut.result.now { order = Some c.len-place.result }) at refl)

pub invariant_of-self-2 : goal.invariant_of-self-2
invariant_of-self-2 c =
    let ns = c.self.inside.nodes.items in
    let stamps = c.self.inside.stamps.items in
    let at : slice_get ns c.args.x ≡ Some c.index_mut.result.now = tables.reads ns (length ns) c.args.x c.index_mut.result.now refl (tables.bound ns stamps c.args.self.now c.args.x c.self.view_is c.requires) c.index_mut.ensures.value in
    let kept = c.self.invariant.bounded c.args.x c.index_mut.result.now at in
    rw c.in_ok-push.ensures.items (growth.keeps_stamp ns stamps c.args.x c.index_mut.result.now (record c.index_mut.result.now { order = Some c.len-place.result }) c.self.invariant at (record { root = kept.root; waits = kept.waits; waiters = kept.waiters }) (ap Some (c.len-place.ensures ∙ search rules)) (record { gone = refl; same = refl; stays = λ h. h }))

pub returns-clause-size : goal.returns-clause-size
returns-clause-size c = tables.size_set c.self.inside.nodes.items c.self.inside.stamps.items c.push.new.self.items c.args.self.now c.args.x _ c.self.view_is

pub returns-in_err-push-clause-size : goal.returns-in_err-push-clause-size
returns-in_err-push-clause-size c = tables.same_size c.self.inside.nodes.items c.self.inside.stamps.items c.push.new.self.items c.args.self.now c.self.view_is
