use Rattle.esm_script.proofs.Existence.{tree_or_fault}
use Rattle.esm_script.proofs.laws.tree_or_fault.Goals as goal

pub returns : goal.returns
returns c = tree_or_fault
