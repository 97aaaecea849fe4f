use Rattle.esm_loads.proofs.Worked.{kept_error}
use Rattle.esm_loads.proofs.examples.kept_error.Goals as goal

pub returns : goal.returns
returns c = kept_error
