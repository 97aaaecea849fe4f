use Rattle.esm_eval.proofs.OnceEnds.{begins_once}
use Rattle.esm_eval.proofs.laws.begins_once.Goals as goal

pub returns : goal.returns
returns g c = begins_once _ _
