-- The load with this number is set.
use Rattle.std.proofs.Common.{ap}
use Rattle.esm_loads.specs.Inner.Steps.{set_load}
use Rattle.esm_loads.proofs.answering.begin.Goals as goal

pub returns : goal.returns
returns c l e = ap (λ l. set_load c.args.loads.now c.args.load l) c.begin.ensures
