use Rattle.esm_eval.proofs.WaitsStayOpen.{waits_stay_open}
use Rattle.esm_eval.proofs.laws.waits_stay_open.Goals as goal

pub returns : goal.returns
returns g c = waits_stay_open _ _
