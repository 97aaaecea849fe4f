use Rattle.esm_world.proofs.AsksStay.{asks_stay}
use Rattle.esm_world.proofs.laws.asks_stay.Goals as goal

pub returns : goal.returns
returns c = asks_stay
