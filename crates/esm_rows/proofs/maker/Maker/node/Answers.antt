use Rattle.std.proofs.Common.{refl, ap, sym, ◌∙◌}
use Rattle.std.proofs.lemmas.Result.{on_ok_weaker}
use Rattle.esm_tree.specs.Flat.{stmt_parts}
use Rattle.esm_tree.specs.declared.node.Assignment.{Assignment}
use Rattle.esm_tree.specs.declared.node.Branches.{Branches}
use Rattle.esm_tree.specs.declared.node.Attempt.{Attempt}
use Rattle.esm_tree.specs.declared.node.NamedAttempt.{NamedAttempt}
use Rattle.esm_rows.specs.Rows.{Operation as o}
use Rattle.esm_rows.specs.Working.{first_block}
use Rattle.esm_rows.proofs.Worked.{pay}
use Rattle.esm_rows.proofs.maker.Maker.node.Goals as goal

pub returns-in-Block : goal.returns-in-Block
returns-in-Block c = λ made is owes. c.block.ensures made _ (ap (stmt_parts c.args.tree.now.stmts) (sym c.as_slice.ensures.value)) (rw c.in-Block.is at owes)

pub returns-in-If : goal.returns-in-If
returns-in-If c = λ made is owes. c.choose.ensures c.args.tree.now.exprs c.args.tree.now.stmts made _ (ap first_block (rw c.in-If.is at is)) (rw c.in-If.is at owes)

pub returns-in-IfElse : goal.returns-in-IfElse
returns-in-IfElse c = λ made is owes. c.choose_else.ensures made _ _ (ap first_block (rw c.in-IfElse.is at is)) (ap (stmt_parts c.args.tree.now.stmts) (sym (c.as_slice-in-IfElse.ensures.value ∙ ap (λ (p : Branches). p.others.items) c.deref.ensures))) (rw c.in-IfElse.is at owes)

pub returns-in-Try : goal.returns-in-Try
returns-in-Try c = λ made is owes. c.attempt.ensures made _ _ (ap first_block (rw c.in-Try.is at is)) (ap (stmt_parts c.args.tree.now.stmts) (sym (c.as_slice-in-Try.ensures.value ∙ ap (λ (p : Attempt). p.handler.items) c.deref-in-Try.ensures))) (rw c.in-Try.is at owes)

pub returns-in-TryCatch : goal.returns-in-TryCatch
returns-in-TryCatch c = λ made is owes.
    let name = c.as_str-name.ensures.value ∙ ap (λ (p : NamedAttempt). p.name) c.deref-in-TryCatch.ensures in
    let handler = c.as_slice-in-TryCatch.ensures.value ∙ ap (λ (p : NamedAttempt). p.handler.items) c.deref-in-TryCatch-2.ensures in
    c.attempt_named.ensures made _ _ (ap first_block (rw c.in-TryCatch.is at is)) (ap (stmt_parts c.args.tree.now.stmts) (sym handler)) (rw (c.in-TryCatch.is, ← name) at owes)

pub returns-in-Empty : goal.returns-in-Empty
returns-in-Empty c = λ made is owes. let d = (rw c.in-Empty.is at owes) in on_ok_weaker c.put.result (pay c.args.tree.now.exprs c.args.tree.now.stmts d) (c.put.ensures d.row o.Step d.told refl)

pub returns-in-Return : goal.returns-in-Return
returns-in-Return c = λ made is owes. let d = (rw c.in-Return.is at owes) in on_ok_weaker c.put_return.result (pay c.args.tree.now.exprs c.args.tree.now.stmts d) (c.put_return.ensures d.row d.told)

pub returns-in-Expression : goal.returns-in-Expression
returns-in-Expression c = λ made is owes. c.value.ensures made o.Drop refl (rw c.in-Expression.is at owes)

pub returns-in-Throw : goal.returns-in-Throw
returns-in-Throw c = λ made is owes. c.value-in-Throw.ensures made o.Throw refl (rw c.in-Throw.is at owes)

pub returns-in-ReturnValue : goal.returns-in-ReturnValue
returns-in-ReturnValue c = λ made is owes. c.value-in-ReturnValue.ensures made o.Return refl (rw c.in-ReturnValue.is at owes)

pub returns-in-Await : goal.returns-in-Await
returns-in-Await c = λ made is owes. c.awaited.ensures made o.Drop refl (rw c.in-Await.is at owes)

pub returns-in-PrintAwait : goal.returns-in-PrintAwait
returns-in-PrintAwait c = λ made is owes. c.awaited-in-PrintAwait.ensures made o.PrintAwaited refl (rw c.in-PrintAwait.is at owes)

pub returns-in-Assign : goal.returns-in-Assign
returns-in-Assign c = λ made is owes.
    let name = c.as_str.ensures.value ∙ ap (λ (p : Assignment). p.name) c.deref-in-Assign.ensures in
    let value = ap (λ (p : Assignment). p.value) c.deref-in-Assign-2.ensures in
    c.assign.ensures made (rw (c.in-Assign.is, ← name, ← value) at owes)

pub returns-in-Const : goal.returns-in-Const
returns-in-Const c = λ made is owes. c.declaration.ensures made (rw (c.in-Const.is, ← c.as_slice-in-Const.ensures.value) at owes)

pub returns-in-Let : goal.returns-in-Let
returns-in-Let c = λ made is owes. c.declaration-in-Let.ensures made (rw (c.in-Let.is, ← c.as_slice-in-Let.ensures.value) at owes)

pub returns-in-Default : goal.returns-in-Default
returns-in-Default c = λ made is owes. c.defaults.ensures made (rw c.in-Default.is at owes)
