use Rattle.std.proofs.Common.{◌≡◌, Some, length, slice_get, refl}
use Rattle.esm_values.specs.Code.{CodeValue, value_of}
use Rattle.esm_eval.specs.Nodes as nodes
use Rattle.esm_eval.specs.declared.nodes.Phase.TheVariants as phases
use Rattle.esm_eval.proofs.Inner.Tables as tables
use Rattle.esm_eval.proofs.nodes.Nodes.fail.Goals as goal

pub returns : goal.returns
returns c =
    let ns = c.self.inside.nodes.items in
    let stamps = c.self.inside.stamps.items in
    let at : slice_get ns c.args.x ≡ Some c.index_mut-node.result.now = tables.reads ns (length ns) c.args.x c.index_mut-node.result.now refl (tables.bound ns stamps c.args.self.now c.args.x c.self.view_is c.requires) c.index_mut-node.ensures.value in
    rw (← c.self.view_is) (tables.writes (λ (n : nodes.Node _ CodeValue). record n { phase = nodes.Evaluated; error = Some (value_of c.args.error) }) ns stamps c.args.x c.index_mut-node.result.now (record c.index_mut-node.result.now { phase = phases.Evaluated; error = Some c.args.error }) at refl)

pub invariant_of-self : goal.invariant_of-self
invariant_of-self c =
    let ns = c.self.inside.nodes.items in
    let stamps = c.self.inside.stamps.items in
    let at : slice_get ns c.args.x ≡ Some c.index_mut-node.result.now = tables.reads ns (length ns) c.args.x c.index_mut-node.result.now refl (tables.bound ns stamps c.args.self.now c.args.x c.self.view_is c.requires) c.index_mut-node.ensures.value in
    let kept = c.self.invariant.bounded c.args.x c.index_mut-node.result.now at in
    tables.keeps ns stamps c.args.x c.index_mut-node.result.now (record c.index_mut-node.result.now { phase = phases.Evaluated; error = Some c.args.error }) c.self.invariant at (record { root = kept.root; waits = kept.waits; waiters = kept.waiters }) refl (record { gone = refl; same = refl; stays = λ h. h })
