-- The slot at the place has the state.
use Rattle.std.proofs.Common.{ap}
use Rattle.esm_loads.proofs.arriving.settle.Goals as goal

pub returns : goal.returns
returns c s e = ap (λ urls. record c.args.loads.now { urls = urls; delivered = c.args.place }) (c.settle.ensures s e)
