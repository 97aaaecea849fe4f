use Rattle.esm_eval.specs.Inner.Orders.{AreOrders, has_one_of}
use Rattle.esm_eval.specs.Host.{evaluation}
use Rattle.esm_eval.specs.Inner.Hosts.{lawful}
use Rattle.esm_eval.proofs.Inner.Gathering.{Gathering, missing}
use Rattle.esm_eval.proofs.host.EvalHost.+gather.Given as goal

-- how many modules with an order aren't known to be ready
abbrev pub decreases-gather : goal.decreases-gather
decreases-gather g l = missing (has_one_of l.self.now.nodes.stamps l.known.now.keys) l.self.now.nodes.stamps

-- what is gathered of the waiters so far
abbrev pub invariant-loop-i : goal.invariant-loop-i
invariant-loop-i g l = record {
  gathering : Gathering (evaluation g.B.Bodies.targets g.B.Bodies.awaits g.B.Bodies.begun) (lawful g.B.Bodies.targets g.B.Bodies.awaits g.B.Bodies.begun) l.self l.y (has_one_of l.self.nodes.stamps l.fn.known.keys) l.i (has_one_of l.self.nodes.stamps l.known.keys);
  orders : AreOrders l.self.nodes.stamps l.known.keys;
}
