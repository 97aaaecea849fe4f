use Rattle.esm_world.proofs.Deliveries.{turn_maps}
use Rattle.esm_world.proofs.laws.keeps_maps.Goals as goal

pub returns : goal.returns
returns c w after u outcome p = turn_maps p
