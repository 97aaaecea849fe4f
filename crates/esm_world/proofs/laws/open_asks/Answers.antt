use Rattle.esm_world.proofs.Deliveries.{open_asks_are}
use Rattle.esm_world.proofs.laws.open_asks.Goals as goal

pub returns : goal.returns
returns c maps built entry trace deliveries what u p h = open_asks_are maps built entry trace deliveries what p u h
