use Rattle.esm_ast.proofs.laws.one_tree.Goals as goal

pub returns : goal.returns
returns c = c.one_tree.ensures
