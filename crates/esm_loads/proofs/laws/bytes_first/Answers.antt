use Rattle.esm_loads.proofs.Limits.{bytes_first, stores_outcome}
use Rattle.esm_loads.proofs.laws.bytes_first.Goals as goal

pub returns : goal.returns
returns c = record { first = bytes_first; stores = stores_outcome }
