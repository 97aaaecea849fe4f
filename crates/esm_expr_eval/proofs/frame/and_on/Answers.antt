use Rattle.std.proofs.Common.{◌+◌, sym, arith}
use Rattle.esm_values.specs.Code.{value_of}
use Rattle.esm_expr_eval.proofs.Steps as steps
use Rattle.esm_expr_eval.specs.declared.frame.Frame.TheVariants as f
use Rattle.esm_expr_eval.proofs.frame.and_on.Goals as goal

pub returns-in-None-clause-tells : goal.returns-in-None-clause-tells
returns-in-None-clause-tells g c = λ world. steps.and_last g.W.World.url_of g.W.World.acts c.args.tree.now.exprs c.args.frames.now.items _ c.args.at c.args.next (value_of c.args.value) c.in-None.ensures.next

pub returns-else-is_true-clause-tells : goal.returns-else-is_true-clause-tells
returns-else-is_true-clause-tells g c = λ world. steps.and_found g.W.World.url_of g.W.World.acts c.args.tree.now.exprs c.args.frames.now.items _ c.args.at c.args.next (value_of c.args.value) c.in-Some.ensures.next.1 (sym c.if-is_true.ensures)

pub returns-then-is_true-clause-tells : goal.returns-then-is_true-clause-tells
returns-then-is_true-clause-tells g c = λ world. steps.begins_tells g.W.World.url_of g.W.World.acts c.args.tree.now.exprs c.args.frames.now.items _ _ _ (f.And c.args.at (c.args.next + 1)) c.in-Some.id _ (steps.and_next g.W.World.url_of g.W.World.acts c.args.tree.now.exprs c.args.frames.now.items _ c.args.at c.args.next (value_of c.args.value) c.in-Some.id c.in-Some.ensures.next.1 (sym c.if-is_true.ensures)) c.begin_in.ensures

pub returns-then-is_true-clause-keeps : goal.returns-then-is_true-clause-keeps
returns-then-is_true-clause-keeps g c =
    let b = c.in-Some.ensures.next.0 in
    let a = c.requires.at in
    let k = steps.operand_work c.in-Some.ensures.next.1 in
    steps.begins_keeps c.args.tree.now.exprs c.args.frames.now.items _ (f.And c.args.at (c.args.next + 1)) c.in-Some.id _ _ c.requires.frames c.requires.at (omega (arith, a, b)) (omega (arith, k)) c.begin_in.ensures
