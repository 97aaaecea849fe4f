-- What contracts see of numbers of expressions in a node.
use Rattle.std.specs.Prelude.{◌≤◌, List, take}
use Rattle.esm_tree.specs.declared.node.ExprId.{ExprId}
use Rattle.esm_tree.specs.declared.expr_ids.Form.{Form}
use Rattle.esm_tree.specs.declared.expr_ids.Form.TheVariants as f

-- the numbers in order
pub record ExprIds : Type 0 where
  pub items : List ExprId

abbrev pub ids_of : Form → List ExprId
ids_of (f.Few n ids) = take n ids
ids_of (f.Many list) = list.value.items

-- no more lie in the node than have room there
abbrev pub IsForm : Form → Type 0
IsForm (f.Few n ids) = n ≤ 5
IsForm (f.Many list) = Unit {0}
