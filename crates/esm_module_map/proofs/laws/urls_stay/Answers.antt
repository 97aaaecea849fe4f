use Rattle.esm_module_map.proofs.Staying.{url_stays}
use Rattle.esm_module_map.proofs.laws.urls_stay.Goals as goal

pub returns : goal.returns
returns g c = url_stays g.P.Payload.weight
