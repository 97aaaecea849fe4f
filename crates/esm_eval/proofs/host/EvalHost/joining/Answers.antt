use Rattle.std.proofs.Common.{sym, subst, ◌∙◌}
use Rattle.esm_realm.proofs.Numbers.{has_at}
use Rattle.esm_eval.specs.Table.{IsOrderOf}
use Rattle.esm_eval.proofs.Inner.Orders as orders
use Rattle.esm_eval.proofs.Inner.LateHost as late
use Rattle.esm_eval.proofs.host.EvalHost.joining.Goals as goal

pub returns-then-contains : goal.returns-then-contains
returns-then-contains g c = late.joins_known g.B.Bodies.targets g.B.Bodies.awaits g.B.Bodies.begun g.B.Bodies.linked g.B.Bodies.knows c.args.self.now c.args.known.now.keys c.args.x (sym (c.contains.ensures ∙ orders.contains_order c.args.self.now.nodes.stamps c.args.known.now.keys c.in-Some.order c.args.x c.requires.distinct (subst (λ o. IsOrderOf c.args.self.now.nodes.stamps c.args.x o) c.in-Some.is c.order.ensures.order)) ∙ c.if-contains.true)

pub is_ready-requires-clause-stamped : goal.is_ready-requires-clause-stamped
is_ready-requires-clause-stamped g c = has_at c.args.self.now.nodes.stamps c.in-Some.order c.args.x (subst (λ o. IsOrderOf c.args.self.now.nodes.stamps c.args.x o) c.in-Some.is c.order.ensures.order)

pub returns-then-is_ready : goal.returns-then-is_ready
returns-then-is_ready g c = ((subst (λ o. IsOrderOf c.args.self.now.nodes.stamps c.args.x o) c.in-Some.is c.order.ensures.order), sym (c.contains.ensures ∙ orders.contains_order c.args.self.now.nodes.stamps c.args.known.now.keys c.in-Some.order c.args.x c.requires.distinct (subst (λ o. IsOrderOf c.args.self.now.nodes.stamps c.args.x o) c.in-Some.is c.order.ensures.order)) ∙ c.if-contains.false, sym c.is_ready.ensures ∙ c.if-is_ready.true)

pub returns-else-is_ready : goal.returns-else-is_ready
returns-else-is_ready g c = late.joins_unready g.B.Bodies.targets g.B.Bodies.awaits g.B.Bodies.begun g.B.Bodies.linked g.B.Bodies.knows c.args.self.now c.args.known.now.keys c.args.x c.is_ready.result c.is_ready.ensures c.if-is_ready.false

pub returns-in-None : goal.returns-in-None
returns-in-None g c = late.joins_unstamped g.B.Bodies.targets g.B.Bodies.awaits g.B.Bodies.begun g.B.Bodies.linked g.B.Bodies.knows c.args.self.now c.args.known.now.keys c.args.x (subst (λ o. IsOrderOf c.args.self.now.nodes.stamps c.args.x o) c.in-None.is c.order.ensures.order)
