use Rattle.std.proofs.Common.{◌<◌, ◌||◌, arith, get_or, refl, sym, ap, ◌∙◌}
use Rattle.esm_tree.specs.Flat.{stmt_parts}
use Rattle.esm_tree.specs.declared.node.StmtId.{StmtId}
use Rattle.esm_ast.specs.Entries.{stmt_awaits, stmts_await}
use Rattle.esm_script.proofs.Awaiting.{found, passed, stmts_left, stmts_none, below_at, get_or_any, other_statement}
use Rattle.esm_script.proofs.awaits.+awaits.Goals as goal

pub stmts_await-stmt_awaits-requires : goal.stmts_await-stmt_awaits-requires
stmts_await-stmt_awaits-requires t c =
    let k = c.loop-id.id-index in
    let ids = c.args.ids.now in
    let d : StmtId = record { 0 = 0 } in
    let id = get_or ids k d in
    let lt : id.0 < c.args.below = below_at c.args.below ids k id c.requires.below c.loop-id-test.true (get_or_any ids k d id c.loop-id-test.true) in
    (omega (arith, lt), omega (arith, lt, c.requires.bound))

pub stmts_await-returns-then-stmt_awaits : goal.stmts_await-returns-then-stmt_awaits
stmts_await-returns-then-stmt_awaits t c =
    let k = c.loop-id.id-index in
    let ids = c.args.ids.now in
    let d : StmtId = record { 0 = 0 } in
    let id = get_or ids k d in
    found _ _ _ (sym (stmts_left c.args.tree.now.stmts ids k id c.loop-id-test.true (get_or_any ids k d id c.loop-id-test.true)) ∙ c.loop-id.invariant) c.if-stmt_awaits.ensures

pub stmts_await-loop-id-preserved : goal.stmts_await-loop-id-preserved
stmts_await-loop-id-preserved t c =
    let k = c.loop-id.id-index in
    let ids = c.args.ids.now in
    let d : StmtId = record { 0 = 0 } in
    let id = get_or ids k d in
    passed _ _ _ (sym (stmts_left c.args.tree.now.stmts ids k id c.loop-id-test.true (get_or_any ids k d id c.loop-id-test.true)) ∙ c.loop-id.invariant) c.if-stmt_awaits.ensures

pub stmts_await-returns : goal.stmts_await-returns
stmts_await-returns t c = sym (stmts_none c.args.tree.now.stmts c.args.ids.now c.loop-id.id-index c.loop-id-test.false) ∙ c.loop-id.invariant

pub either_awaits-returns-then-stmts_await : goal.either_awaits-returns-then-stmts_await
either_awaits-returns-then-stmts_await t c = ap (λ b. b || stmts_await (stmt_parts c.args.tree.now.stmts c.args.others.now)) c.if-stmts_await.ensures

pub either_awaits-returns : goal.either_awaits-returns
either_awaits-returns t c = c.stmts_await-2.ensures ∙ ap (λ b. b || stmts_await (stmt_parts c.args.tree.now.stmts c.args.others.now)) c.if-stmts_await.ensures

pub stmt_awaits-returns-in-Assign : goal.stmt_awaits-returns-in-Assign
unfolding stmt_awaits
stmt_awaits-returns-in-Assign t c = rw (c.stmt.ensures.node, c.in-Assign.is) (rw c.deref.ensures at (c.init_awaits.ensures c.args.tree.now.exprs))

pub stmt_awaits-returns-in-Block : goal.stmt_awaits-returns-in-Block
unfolding stmt_awaits
stmt_awaits-returns-in-Block t c = rw (c.stmt.ensures.node, c.in-Block.is) (rw c.deref-in-Block.ensures.value at c.stmts_await.ensures)

pub stmt_awaits-returns-in-If : goal.stmt_awaits-returns-in-If
unfolding stmt_awaits
stmt_awaits-returns-in-If t c = rw (c.stmt.ensures.node, c.in-If.is) (rw c.deref-in-If.ensures.value at c.stmts_await-in-If.ensures)

pub stmt_awaits-returns-in-IfElse : goal.stmt_awaits-returns-in-IfElse
unfolding stmt_awaits
stmt_awaits-returns-in-IfElse t c = rw (c.stmt.ensures.node, c.in-IfElse.is) (rw (c.deref-in-IfElse-2.ensures.value, c.deref-in-IfElse.ensures, c.deref-in-IfElse-4.ensures.value, c.deref-in-IfElse-3.ensures) at c.either_awaits.ensures)

pub stmt_awaits-returns-in-Try : goal.stmt_awaits-returns-in-Try
unfolding stmt_awaits
stmt_awaits-returns-in-Try t c = rw (c.stmt.ensures.node, c.in-Try.is) (rw (c.deref-in-Try-2.ensures.value, c.deref-in-Try.ensures, c.deref-in-Try-4.ensures.value, c.deref-in-Try-3.ensures) at c.either_awaits-in-Try.ensures)

pub stmt_awaits-returns-in-TryCatch : goal.stmt_awaits-returns-in-TryCatch
unfolding stmt_awaits
stmt_awaits-returns-in-TryCatch t c = rw (c.stmt.ensures.node, c.in-TryCatch.is) (rw (c.deref-in-TryCatch-2.ensures.value, c.deref-in-TryCatch.ensures, c.deref-in-TryCatch-4.ensures.value, c.deref-in-TryCatch-3.ensures) at c.either_awaits-in-TryCatch.ensures)

pub stmt_awaits-returns-in-Await : goal.stmt_awaits-returns-in-Await
unfolding stmt_awaits
stmt_awaits-returns-in-Await t c = rw (c.stmt.ensures.node, c.in-Await.is) refl

pub stmt_awaits-returns-in-PrintAwait : goal.stmt_awaits-returns-in-PrintAwait
unfolding stmt_awaits
stmt_awaits-returns-in-PrintAwait t c = rw (c.stmt.ensures.node, c.in-PrintAwait.is) refl

pub stmt_awaits-returns-in-Const : goal.stmt_awaits-returns-in-Const
unfolding stmt_awaits
stmt_awaits-returns-in-Const t c = rw (c.stmt.ensures.node, c.in-Const.is) (rw c.deref-in-Const.ensures.value at (c.bindings_await.ensures c.args.tree.now.exprs))

pub stmt_awaits-returns-in-Let : goal.stmt_awaits-returns-in-Let
unfolding stmt_awaits
stmt_awaits-returns-in-Let t c = rw (c.stmt.ensures.node, c.in-Let.is) (rw c.deref-in-Let.ensures.value at (c.bindings_await-in-Let.ensures c.args.tree.now.exprs))

pub stmt_awaits-returns-in-Default : goal.stmt_awaits-returns-in-Default
unfolding stmt_awaits
stmt_awaits-returns-in-Default t c = rw (c.stmt.ensures.node, c.in-Default.is) (c.init_awaits-in-Default.ensures c.args.tree.now.exprs)

pub stmt_awaits-returns-in_default : goal.stmt_awaits-returns-in_default
stmt_awaits-returns-in_default t c =
    let d = c.in_default in
    sym (ap stmt_awaits c.stmt.ensures.node
    ∙ other_statement _ _ _ d.not-Assign d.not-Block d.not-If d.not-IfElse d.not-Try d.not-TryCatch d.not-Await d.not-PrintAwait d.not-Const d.not-Let d.not-Default)
