use Rattle.esm_loads.proofs.Worked.{refused_root}
use Rattle.esm_loads.proofs.examples.refused_root.Goals as goal

pub returns : goal.returns
returns c = refused_root
