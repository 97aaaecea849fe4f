use Rattle.esm_world.proofs.StandsOnce.{runs_have_bodies}
use Rattle.esm_world.proofs.awaits.runs_have_bodies.Goals as goal

pub returns : goal.returns
returns c maps built entry trace ds w r = runs_have_bodies maps built entry trace ds w r
