use Rattle.esm_world.proofs.AwaitsKept.{awaits_keep_bodies}
use Rattle.esm_world.proofs.awaits.awaits_keep_bodies.Goals as goal

pub returns : goal.returns
returns c = awaits_keep_bodies
