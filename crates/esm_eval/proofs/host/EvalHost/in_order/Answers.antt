use Rattle.std.proofs.Common.{◌≡◌, ◌++◌, length, ap, sym, subst, arith}
use Rattle.esm_eval.specs.Host.{evaluation}
use Rattle.esm_eval.specs.BodyEnd.{ReadyAmong}
use Rattle.esm_eval.specs.Inner.Orders.{AreOrders, modules_at}
use Rattle.esm_eval.proofs.Inner.Orders as orders
use Rattle.esm_eval.proofs.host.EvalHost.in_order.Goals as goal

pub loop-order-init : goal.loop-order-init
loop-order-init g c = record { leads = ap (λ l. l ++ modules_at c.args.self.now.nodes.stamps c.args.known.keys) c.in_ok-modules.ensures.items; orders = c.requires.orders }

pub stamp-requires : goal.stamp-requires
stamp-requires g c = (subst (λ l. AreOrders c.args.self.now.nodes.stamps l) c.in-Some.ensures.removal c.loop-order.invariant.orders).0

pub loop-order-smaller : goal.loop-order-smaller
loop-order-smaller g c = let e = ap length c.in-Some.ensures.removal in omega (arith, e)

pub loop-order-preserved : goal.loop-order-preserved
loop-order-preserved g c = record { leads = subst (λ l. l ++ modules_at c.args.self.now.nodes.stamps c.pop_first.new.self.keys ≡ modules_at c.args.self.now.nodes.stamps c.args.known.keys) (sym c.in_ok-push.ensures.items) (orders.modules_on c.args.self.now.nodes.stamps (evaluation g.B.Bodies.targets g.B.Bodies.awaits g.B.Bodies.begun) c.args.self.now c.loop-order.modules.items c.in-Some.order c.pop_first.new.self.keys c.loop-order.known.keys c.stamp.result (modules_at c.args.self.now.nodes.stamps c.args.known.keys) c.in-Some.ensures.removal c.stamp.ensures c.loop-order.invariant.leads); orders = (subst (λ l. AreOrders c.args.self.now.nodes.stamps l) c.in-Some.ensures.removal c.loop-order.invariant.orders).1 }

pub returns : goal.returns
returns g c = subst (λ l. ReadyAmong (evaluation g.B.Bodies.targets g.B.Bodies.awaits g.B.Bodies.begun) c.args.self.now c.args.self.now.nodes.stamps l) (sym (orders.modules_done c.args.self.now.nodes.stamps (evaluation g.B.Bodies.targets g.B.Bodies.awaits g.B.Bodies.begun) c.args.self.now c.loop-order.modules.items c.loop-order.known.keys (modules_at c.args.self.now.nodes.stamps c.args.known.keys) (orders.none_left c.args.self.now.nodes.stamps (evaluation g.B.Bodies.targets g.B.Bodies.awaits g.B.Bodies.begun) c.args.self.now c.pop_first.result c.loop-order.known.keys c.pop_first.ensures.variant c.in_default.not-Some) c.loop-order.invariant.leads)) (orders.all_ready c.args.self.now.nodes.stamps (evaluation g.B.Bodies.targets g.B.Bodies.awaits g.B.Bodies.begun) c.args.self.now c.args.known.keys c.len.ensures.ordered c.requires.orders c.requires.distinct c.requires.ready)
