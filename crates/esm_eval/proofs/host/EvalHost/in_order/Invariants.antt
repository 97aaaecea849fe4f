use Rattle.std.proofs.Common.{◌≡◌, ◌++◌, length}
use Rattle.esm_eval.specs.Inner.Orders.{AreOrders, modules_at}
use Rattle.esm_eval.proofs.host.EvalHost.in_order.Given as goal

-- how many orders are left
abbrev pub decreases-loop-order : goal.decreases-loop-order
decreases-loop-order g l = length l.known.keys

-- the modules of those that are left come behind those that were taken
abbrev pub invariant-loop-order : goal.invariant-loop-order
invariant-loop-order g l = record {
  leads : l.modules.items ++ modules_at l.self.nodes.stamps l.known.keys ≡ modules_at l.self.nodes.stamps l.fn.known.keys;
  orders : AreOrders l.self.nodes.stamps l.known.keys;
}
