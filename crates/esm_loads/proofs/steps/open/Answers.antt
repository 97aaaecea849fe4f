use Rattle.std.proofs.Common.{ap}
use Rattle.esm_loads.proofs.steps.open.Goals as goal

pub returns-in-Err-clause-same : goal.returns-in-Err-clause-same
returns-in-Err-clause-same c limit e = ap (λ urls. record c.args.loads.now { urls = urls }) (c.in-Err.ensures.same limit e)
