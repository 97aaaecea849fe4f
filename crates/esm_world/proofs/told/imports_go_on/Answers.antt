use Rattle.esm_world.proofs.FollowedWorld.{imports_go_on}
use Rattle.esm_world.proofs.told.imports_go_on.Goals as goal

pub returns : goal.returns
returns c = imports_go_on
