use Rattle.esm_ast.proofs.SpelledTree.{spelled_is_module_tree}
use Rattle.esm_ast.proofs.laws.spelled_is_module_tree.Goals as goal

pub returns : goal.returns
returns c = spelled_is_module_tree
