use Rattle.std.proofs.Common.{sym, arith}
use Rattle.esm_ast.specs.Entries.{item_awaits}
use Rattle.esm_script.proofs.Awaiting.{other_item}
use Rattle.esm_script.proofs.awaits.item_awaits.Goals as goal

pub stmt_awaits-requires : goal.stmt_awaits-requires
stmt_awaits-requires c = let need = rw c.in-Statement.is at c.requires in omega (arith, need)

pub stmt_awaits-requires-in-ExportStatement : goal.stmt_awaits-requires-in-ExportStatement
stmt_awaits-requires-in-ExportStatement c = let need = rw c.in-ExportStatement.is at c.requires in omega (arith, need)

pub returns-in-Statement : goal.returns-in-Statement
unfolding item_awaits
returns-in-Statement c = rw c.in-Statement.is c.stmt_awaits.ensures

pub returns-in-ExportStatement : goal.returns-in-ExportStatement
unfolding item_awaits
returns-in-ExportStatement c = rw c.in-ExportStatement.is c.stmt_awaits-in-ExportStatement.ensures

pub returns-in_default : goal.returns-in_default
returns-in_default c = sym (other_item c.args.tree.now.stmts _ c.in_default.not-Statement c.in_default.not-ExportStatement)
