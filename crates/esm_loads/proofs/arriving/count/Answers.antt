use Rattle.std.proofs.Common.{ap}
use Rattle.esm_loads.proofs.arriving.count.Goals as goal

pub returns-in-Ok-clause-ok : goal.returns-in-Ok-clause-ok
returns-in-Ok-clause-ok c = ap (λ urls. record c.args.loads.now { urls = urls }) c.in-Ok.ensures.ok
