use Rattle.esm_world.proofs.StartsOnce.{stops_are_told}
use Rattle.esm_world.proofs.laws.limits_are_told.Goals as goal

pub returns : goal.returns
returns c = stops_are_told
