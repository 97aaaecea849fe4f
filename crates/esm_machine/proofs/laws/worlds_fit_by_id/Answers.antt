use Rattle.esm_machine.proofs.FitsById.{worlds_fit_by_id}
use Rattle.esm_machine.proofs.laws.worlds_fit_by_id.Goals as goal

pub returns : goal.returns
returns c = worlds_fit_by_id
