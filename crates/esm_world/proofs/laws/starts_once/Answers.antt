use Rattle.esm_world.proofs.StartsOnce.{starts_once}
use Rattle.esm_world.proofs.laws.starts_once.Goals as goal

pub returns : goal.returns
returns c maps built entry trace deliveries what p = starts_once maps built entry trace deliveries what p
