use Rattle.std.proofs.Common.{sym, subst, ◌∙◌}
use Rattle.esm_eval.specs.Table.{IsOrderOf}
use Rattle.esm_eval.proofs.Inner.Orders as orders
use Rattle.esm_eval.proofs.host.EvalHost.has_gathered.Goals as goal

pub returns-in-Some : goal.returns-in-Some
returns-in-Some g c = c.contains.ensures ∙ orders.contains_order c.args.self.now.nodes.stamps c.args.known.now.keys c.in-Some.order c.args.y c.requires (subst (λ o. IsOrderOf c.args.self.now.nodes.stamps c.args.y o) c.in-Some.is c.order.ensures.order)

pub returns-in-None : goal.returns-in-None
returns-in-None g c = sym (orders.has_none c.args.self.now.nodes.stamps c.args.known.now.keys c.args.y (subst (λ o. IsOrderOf c.args.self.now.nodes.stamps c.args.y o) c.in-None.is c.order.ensures.order))
