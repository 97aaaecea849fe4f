use Rattle.esm_ast.proofs.OneOutcome.{one_outcome}
use Rattle.esm_ast.proofs.laws.one_outcome.Goals as goal

pub returns : goal.returns
returns c = one_outcome c.one_tree.ensures c.one_fault.ensures c.no_tree_beside_a_fault.ensures
