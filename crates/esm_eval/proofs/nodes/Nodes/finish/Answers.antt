use Rattle.std.proofs.Common.{◌≡◌, ℕ, List, Some, true, length, slice_get, refl, ap, ◌∙◌}
use Rattle.esm_eval.specs.Table.{Table}
use Rattle.esm_values.specs.Code.{CodeValue}
use Rattle.esm_eval.specs.Nodes as nodes
use Rattle.esm_eval.specs.declared.nodes.Phase.TheVariants as phases
use Rattle.esm_eval.proofs.Inner.Tables as tables
use Rattle.esm_eval.proofs.nodes.Nodes.finish.Goals as goal

-- a table of these nodes
abbrev table_by : List (nodes.Node ℕ CodeValue) → List ℕ → Table
table_by l stamps = record { nodes = l; stamps = stamps }

pub returns : goal.returns
returns c =
    let ns = c.self.inside.nodes.items in
    let stamps = c.self.inside.stamps.items in
    let at : slice_get ns c.args.x ≡ Some c.index_mut-node.result.now = tables.reads ns (length ns) c.args.x c.index_mut-node.result.now refl (tables.bound ns stamps c.args.self.now c.args.x c.self.view_is c.requires) c.index_mut-node.ensures.value in
    rw (← c.self.view_is) (ap (λ l. table_by l stamps) c.pass_waiters.ensures.same ∙ tables.writes (λ (n : nodes.Node _ CodeValue). record n { phase = nodes.Evaluated; done = true }) ns stamps c.args.x c.index_mut-node.result.now (record c.index_mut-node.result.now { phase = phases.Evaluated; done = true }) at refl)

pub invariant_of-self : goal.invariant_of-self
invariant_of-self c =
    let ns = c.self.inside.nodes.items in
    let stamps = c.self.inside.stamps.items in
    let at : slice_get ns c.args.x ≡ Some c.index_mut-node.result.now = tables.reads ns (length ns) c.args.x c.index_mut-node.result.now refl (tables.bound ns stamps c.args.self.now c.args.x c.self.view_is c.requires) c.index_mut-node.ensures.value in
    let kept = c.self.invariant.bounded c.args.x c.index_mut-node.result.now at in
    c.pass_waiters.ensures.kept stamps (tables.keeps ns stamps c.args.x c.index_mut-node.result.now (record c.index_mut-node.result.now { phase = phases.Evaluated; done = true }) c.self.invariant at (record { root = kept.root; waits = kept.waits; waiters = kept.waiters }) refl (record { gone = refl; same = refl; stays = λ h. refl }))
