use Rattle.esm_ast.proofs.laws.one_fault.Goals as goal

pub returns : goal.returns
returns c = c.one_fault.ensures
