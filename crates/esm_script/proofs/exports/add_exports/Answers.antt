use Rattle.std.proofs.Common.{arith}
use Rattle.esm_ast.specs.Entries.{exports_of}
use Rattle.esm_script.proofs.Exported.{adds_none, other_exports}
use Rattle.esm_script.proofs.exports.add_exports.Goals as goal

pub add_statement-requires : goal.add_statement-requires
add_statement-requires c = let need = rw c.in-ExportStatement.is at c.requires in omega (arith, need)

pub returns-in-ExportAllAs : goal.returns-in-ExportAllAs
unfolding exports_of
returns-in-ExportAllAs c = λ imports is. rw c.in-ExportAllAs.is (rw (c.deref-in-ExportAllAs.ensures, c.place_of-request.ensures, c.deref.ensures) at c.add_space.ensures)

pub returns-in-ExportFrom : goal.returns-in-ExportFrom
unfolding exports_of
returns-in-ExportFrom c = λ imports is. rw c.in-ExportFrom.is (rw (c.deref-in-ExportFrom-3.ensures.value, c.deref-in-ExportFrom-2.ensures, c.place_of-request-in-ExportFrom.ensures, c.deref-in-ExportFrom.ensures) at c.add_all_passed.ensures)

pub returns-in-ExportList : goal.returns-in-ExportList
unfolding exports_of
returns-in-ExportList c = λ imports is. rw c.in-ExportList.is (rw (c.deref-in-ExportList-2.ensures.value, c.deref-in-ExportList.ensures) at (c.add_all_listed.ensures imports is))

pub returns-in-ExportStatement : goal.returns-in-ExportStatement
unfolding exports_of
returns-in-ExportStatement c = λ imports is. rw c.in-ExportStatement.is c.add_statement.ensures

pub returns-in-ExportFunction : goal.returns-in-ExportFunction
unfolding exports_of
returns-in-ExportFunction c = λ imports is. rw c.in-ExportFunction.is (rw c.deref-in-ExportFunction.ensures at c.add_own.ensures)

pub returns-in-ExportDefaultFunction : goal.returns-in-ExportDefaultFunction
unfolding exports_of
returns-in-ExportDefaultFunction c = λ imports is. rw c.in-ExportDefaultFunction.is (rw c.deref-in-ExportDefaultFunction.ensures at c.add_function.ensures)

pub returns-in_default : goal.returns-in_default
returns-in_default c = λ imports is.
    let d = c.in_default in
    adds_none _ _ (other_exports c.args.requests.now imports c.args.tree.now.stmts _ d.not-ExportAllAs d.not-ExportFrom d.not-ExportList d.not-ExportStatement d.not-ExportFunction d.not-ExportDefaultFunction)
