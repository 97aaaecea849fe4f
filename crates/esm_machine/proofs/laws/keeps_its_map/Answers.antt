use Rattle.esm_machine.proofs.KeptMap.{keeps_its_map}
use Rattle.esm_machine.proofs.laws.keeps_its_map.Goals as goal

pub returns : goal.returns
returns c = keeps_its_map c.keeps_maps.ensures
