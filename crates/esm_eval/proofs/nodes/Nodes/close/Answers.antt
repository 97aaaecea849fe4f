use Rattle.std.proofs.Common.{◌≡◌, Some, length, slice_get, refl}
use Rattle.esm_values.specs.Code.{CodeValue}
use Rattle.esm_eval.specs.Nodes as nodes
use Rattle.esm_eval.specs.Table.{phase_of}
use Rattle.esm_eval.proofs.Inner.Tables as tables
use Rattle.esm_eval.proofs.nodes.Nodes.close.Goals as goal

pub returns : goal.returns
returns c =
    let ns = c.self.inside.nodes.items in
    let stamps = c.self.inside.stamps.items in
    let at : slice_get ns c.args.x ≡ Some c.index_mut-node.result.now = tables.reads ns (length ns) c.args.x c.index_mut-node.result.now refl (tables.bound ns stamps c.args.self.now c.args.x c.self.view_is c.requires.has) c.index_mut-node.ensures.value in
    rw (← c.self.view_is) (tables.writes (λ (n : nodes.Node _ CodeValue). record n { phase = phase_of c.args.phase; cycle_root = Some c.args.root }) ns stamps c.args.x c.index_mut-node.result.now (record c.index_mut-node.result.now { phase = c.args.phase; cycle_root = Some c.args.root }) at refl)

pub invariant_of-self : goal.invariant_of-self
invariant_of-self c =
    let ns = c.self.inside.nodes.items in
    let stamps = c.self.inside.stamps.items in
    let at : slice_get ns c.args.x ≡ Some c.index_mut-node.result.now = tables.reads ns (length ns) c.args.x c.index_mut-node.result.now refl (tables.bound ns stamps c.args.self.now c.args.x c.self.view_is c.requires.has) c.index_mut-node.ensures.value in
    let kept = c.self.invariant.bounded c.args.x c.index_mut-node.result.now at in
    tables.keeps ns stamps c.args.x c.index_mut-node.result.now (record c.index_mut-node.result.now { phase = c.args.phase; cycle_root = Some c.args.root }) c.self.invariant at (record { root = tables.some_below (length ns) c.args.root (tables.bound ns stamps c.args.self.now c.args.root c.self.view_is c.requires.root); waits = kept.waits; waiters = kept.waiters }) refl (record { gone = refl; same = refl; stays = λ h. h })
