use Rattle.esm_world.proofs.ReactsLower.{jobs_lower}
use Rattle.esm_world.proofs.laws.jobs_lower.Goals as goal

pub returns : goal.returns
returns c = jobs_lower
