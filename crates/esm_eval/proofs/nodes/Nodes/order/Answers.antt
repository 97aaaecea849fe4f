use Rattle.std.proofs.Common.{arith}
use Rattle.esm_eval.proofs.Inner.Tables as tables
use Rattle.esm_eval.proofs.nodes.Nodes.order.Goals as goal

pub returns-then-at-len-clause-has : goal.returns-then-at-len-clause-has
returns-then-at-len-clause-has c h =
    let ns = c.self.inside.nodes in
    tables.has_node ns.items c.self.inside.stamps.items c.args.self.now c.args.x c.self.view_is (let lt = c.if-at-len.true in omega (arith, lt, ns.ok.0, c.len.ensures))

pub returns-else-at-len-clause-order : goal.returns-else-at-len-clause-order
returns-else-at-len-clause-order c =
    let ns = c.self.inside.nodes in
    rw (← c.self.view_is) (tables.unstamped_past ns.items c.self.inside.stamps.items c.args.x c.self.invariant (omega (arith, ns.ok.0, c.len.ensures)))
