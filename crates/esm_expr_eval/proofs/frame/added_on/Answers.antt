use Rattle.std.proofs.Common.{refl, arith}
use Rattle.esm_values.specs.Code.{value_of}
use Rattle.esm_expr_eval.proofs.Steps as steps
use Rattle.esm_expr_eval.specs.declared.frame.Frame.TheVariants as f
use Rattle.esm_expr_eval.proofs.frame.added_on.Goals as goal

pub returns-then-is_pushed-clause-tells : goal.returns-then-is_pushed-clause-tells
returns-then-is_pushed-clause-tells g c = steps.value_pushed g.W.World.url_of g.W.World.acts c.args.tree.now.exprs c.args.frames.now.items _ _ _ _ (f.Sum c.args.at c.args.next) (value_of c.in-Ok-Value.sum) (steps.sum_joined g.W.World.url_of g.W.World.acts c.args.tree.now.exprs c.args.frames.now.items _ _ c.args.at c.args.next c.args.left (value_of c.args.value) c.in-Ok-Value.sum (rw c.in-Ok-Value.field-0-is at c.in-Ok-Value.ensures)) (c.if-is_pushed.ensures refl)

pub returns-then-is_pushed-clause-keeps : goal.returns-then-is_pushed-clause-keeps
returns-then-is_pushed-clause-keeps g c = steps.keeps_value c.args.tree.now.exprs c.args.frames.now.items _ (f.Sum c.args.at c.args.next) _ c.requires.frames c.requires.at (omega arith) (c.if-is_pushed.ensures refl)

pub returns-in-Ok-Thrown-clause-tells : goal.returns-in-Ok-Thrown-clause-tells
returns-in-Ok-Thrown-clause-tells g c = steps.sum_leaves g.W.World.url_of g.W.World.acts c.args.tree.now.exprs c.args.frames.now.items _ _ c.args.at c.args.next c.args.left (value_of c.args.value) c.in-Ok-Thrown.error (rw c.in-Ok-Thrown.field-0-is at c.in-Ok-Thrown.ensures)

pub returns-clause-tells : goal.returns-clause-tells
returns-clause-tells g c = steps.sum_ends g.W.World.url_of g.W.World.acts c.args.tree.now.exprs c.args.frames.now.items _ _ c.args.at c.args.next c.args.left (value_of c.args.value) _ c.in-Err.end c.in-Err.ensures
