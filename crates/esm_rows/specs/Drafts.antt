-- A row that is being made, and what was found for it.
use Rattle.std.specs.Prelude.{◌≡◌, List, [], Option, Some, None}
use Rattle.std.specs.Borrow.{Bor}
use Rattle.esm_tree.specs.Syntax as x
use Rattle.esm_tree.specs.Syntax.{Expr, Stmt}
use Rattle.esm_tree.specs.Flat.{part, expr_of, stmt_part, stmt_of}
use Rattle.esm_tree.specs.declared.node.ExprId.{ExprId}
use Rattle.esm_tree.specs.declared.node.StmtId.{StmtId}
use Rattle.esm_tree.specs.declared.node.ExprNode.{ExprNode}
use Rattle.esm_tree.specs.declared.node.StmtNode.{StmtNode}
use Rattle.esm_rows.specs.Rows.{Operation, Row, Names}
use Rattle.esm_rows.specs.Making.{AreTold, IsTold, LeadsTo}
use Rattle.esm_rows.specs.declared.op.Op.{Op}
use Rattle.esm_rows.specs.declared.tasks.Task.{Task}
use Rattle.esm_rows.specs.declared.draft.Draft.{Draft}

-- its operations are these. No name is told by its place in the module yet
abbrev pub IsDraft : Draft → Row → Type 0
IsDraft d c = AreTold [] d.texts.items d.ops.items c

abbrev pub IsToldIn : Draft → Op → Operation → Type 0
IsToldIn d q p = IsTold [] d.texts.items q p

-- with what is still to be put in front it makes this row
abbrev pub Leads : Names → List Expr → List Task → Draft → Row → Type 0
Leads names exprs tasks d made = LeadsTo names exprs tasks d.texts.items d.ops.items made

-- the node of an expression. None stands for `undefined`
abbrev pub IsExprAt : List Expr → ExprId → Option (Bor ExprNode) → Type 0
IsExprAt exprs id None = part exprs id ≡ x.Undefined
IsExprAt exprs id (Some node) = part exprs id ≡ expr_of exprs node.now

-- the node of a statement. None stands for the empty one
abbrev pub IsStmtAt : List Expr → List Stmt → StmtId → Option (Bor StmtNode) → Type 0
IsStmtAt exprs stmts id None = stmt_part stmts id ≡ x.Empty
IsStmtAt exprs stmts id (Some node) = stmt_part stmts id ≡ stmt_of exprs stmts node.now
