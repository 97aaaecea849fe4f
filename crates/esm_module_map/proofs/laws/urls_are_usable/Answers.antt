use Rattle.esm_module_map.proofs.Usable.{urls_usable}
use Rattle.esm_module_map.proofs.laws.urls_are_usable.Goals as goal

pub returns : goal.returns
returns g c = urls_usable g.P.Payload.weight
