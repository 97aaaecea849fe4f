use Rattle.esm_loads.proofs.Orderly.{only_grows}
use Rattle.esm_loads.proofs.laws.only_grows.Goals as goal

pub returns : goal.returns
returns c = only_grows
