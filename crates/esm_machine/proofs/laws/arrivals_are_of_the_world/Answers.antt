use Rattle.esm_machine.proofs.Arrivals.{arrivals_are_of_the_world}
use Rattle.esm_machine.proofs.laws.arrivals_are_of_the_world.Goals as goal

pub returns : goal.returns
returns c = arrivals_are_of_the_world c.shared_set.ensures.agrees c.shared_set.ensures.ends
