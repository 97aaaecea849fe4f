use Rattle.esm_world.specs.World.{opening}
use Rattle.esm_world.proofs.ToldWorld.{opens, runs_told}
use Rattle.esm_world.proofs.told.runs_are_told.Goals as goal

pub returns : goal.returns
returns c maps built entry trace ds w p = runs_told ds (opening maps built entry trace) w (opens maps built entry trace) p
