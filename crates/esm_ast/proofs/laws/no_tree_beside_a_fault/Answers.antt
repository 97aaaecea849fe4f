use Rattle.esm_ast.proofs.laws.no_tree_beside_a_fault.Goals as goal

pub returns : goal.returns
returns c = c.no_fault.ensures
