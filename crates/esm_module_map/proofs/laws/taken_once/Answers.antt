use Rattle.esm_module_map.proofs.Marks.{taken_once}
use Rattle.esm_module_map.proofs.laws.taken_once.Goals as goal

pub returns : goal.returns
returns g c = taken_once g.P.Payload.weight
