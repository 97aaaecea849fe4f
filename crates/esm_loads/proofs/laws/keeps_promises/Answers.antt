use Rattle.esm_loads.proofs.Owed.{keeps_promises}
use Rattle.esm_loads.proofs.laws.keeps_promises.Goals as goal

pub returns : goal.returns
returns c = keeps_promises
