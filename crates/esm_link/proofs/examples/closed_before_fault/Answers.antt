use Rattle.esm_link.proofs.WorkedLinks.{closed_before_fault}
use Rattle.esm_link.proofs.examples.closed_before_fault.Goals as goal

pub returns : goal.returns
returns c = closed_before_fault
