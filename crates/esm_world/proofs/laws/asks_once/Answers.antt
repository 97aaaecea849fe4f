use Rattle.esm_world.proofs.Deliveries.{asks_once}
use Rattle.esm_world.proofs.laws.asks_once.Goals as goal

pub returns : goal.returns
returns c maps built entry trace deliveries what p = asks_once maps built entry trace deliveries what p
