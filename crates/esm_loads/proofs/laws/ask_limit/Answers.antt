use Rattle.esm_loads.proofs.Orderly.{ask_limit}
use Rattle.esm_loads.proofs.laws.ask_limit.Goals as goal

pub returns : goal.returns
returns c = ask_limit
