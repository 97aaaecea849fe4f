use Rattle.std.proofs.Common.{ap, ◌∙◌, ◌++◌, ◌∷◌, []}
use Rattle.esm_loads.specs.Inner.Requests.{QueuesView}
use Rattle.esm_loads.proofs.asking.add_load.Goals as goal

pub returns-clause-adds : goal.returns-clause-adds
returns-clause-adds c = record {
  loads = c.in_ok-push.ensures.items ∙ ap (λ v. c.args.loads.now.loads.items ++ v ∷ []) c.new.ensures;
  purposes = c.in_ok-push-2.ensures.items;
  rest = ap (λ (q : QueuesView). record c.args.loads.now { queues = q; loads = c.push.new.self; purposes = c.push-2.new.self }) c.in_ok-add_load.ensures;
}
