use Rattle.esm_world.proofs.runs.ThrownInCycle.{throws_in_cycle}
use Rattle.esm_world.proofs.examples.throws_in_cycle.Goals as goal

pub returns : goal.returns
returns c = throws_in_cycle
