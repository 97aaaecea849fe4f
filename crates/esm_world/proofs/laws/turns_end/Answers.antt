use Rattle.esm_world.proofs.HasTurns.{turns_end}
use Rattle.esm_world.proofs.laws.turns_end.Goals as goal

pub returns : goal.returns
returns g c = turns_end _
