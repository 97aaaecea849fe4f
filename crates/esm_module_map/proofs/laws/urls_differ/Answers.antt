use Rattle.esm_module_map.proofs.Marks.{urls_differ}
use Rattle.esm_module_map.proofs.laws.urls_differ.Goals as goal

pub returns : goal.returns
returns g c = urls_differ g.P.Payload.weight
