use Rattle.esm_world.proofs.RunsSound.{runs_fit}
use Rattle.esm_world.proofs.RunsIdle.{loads_have_ended}
use Rattle.esm_world.proofs.laws.loads_have_ended.Goals as goal

pub returns : goal.returns
returns c = loads_have_ended (runs_fit c.shared_set.ensures.agrees c.shared_set.ensures.ends).loading
