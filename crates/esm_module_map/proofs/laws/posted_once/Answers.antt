use Rattle.esm_module_map.proofs.Marks.{posted_once}
use Rattle.esm_module_map.proofs.laws.posted_once.Goals as goal

pub returns : goal.returns
returns g c = posted_once g.P.Payload.weight
