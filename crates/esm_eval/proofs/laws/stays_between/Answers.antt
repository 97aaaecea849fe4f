use Rattle.esm_eval.proofs.Between.{stays_between}
use Rattle.esm_eval.proofs.laws.stays_between.Goals as goal

pub returns : goal.returns
returns g c = stays_between g.A.AnyWorld.evaluation
