use Rattle.esm_world.proofs.RunsIdle.{turns_leave_nothing}
use Rattle.esm_world.proofs.laws.turns_leave_nothing.Goals as goal

pub returns : goal.returns
returns c = turns_leave_nothing
