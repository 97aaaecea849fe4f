use Rattle.esm_loads.proofs.Worked.{shared_url}
use Rattle.esm_loads.proofs.examples.shared_url.Goals as goal

pub returns : goal.returns
returns c = shared_url
