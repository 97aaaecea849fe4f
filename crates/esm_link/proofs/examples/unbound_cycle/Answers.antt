use Rattle.esm_link.proofs.WorkedLinks.{unbound_cycle}
use Rattle.esm_link.proofs.examples.unbound_cycle.Goals as goal

pub returns : goal.returns
returns c = unbound_cycle
