use Rattle.std.proofs.Common.{sym, subst}
use Rattle.esm_realm.proofs.Numbers.{has_at}
use Rattle.esm_eval.specs.Table.{IsOrderOf}
use Rattle.esm_eval.proofs.nodes.Nodes.is_stamped.Goals as goal

pub returns-in-Some-clause-stamped : goal.returns-in-Some-clause-stamped
returns-in-Some-clause-stamped c =
    let stamps = c.args.self.now.stamps in
    sym (has_at stamps c.in-Some._place c.args.x (subst (λ o. IsOrderOf stamps c.args.x o) c.in-Some.is c.order.ensures.order))

pub returns-in-None-clause-stamped : goal.returns-in-None-clause-stamped
returns-in-None-clause-stamped c = sym (subst (λ o. IsOrderOf c.args.self.now.stamps c.args.x o) c.in-None.is c.order.ensures.order)
