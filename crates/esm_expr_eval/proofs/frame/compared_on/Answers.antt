use Rattle.std.proofs.Common.{refl, arith}
use Rattle.esm_values.specs.Code.{value_of}
use Rattle.esm_expr_eval.proofs.Steps as steps
use Rattle.esm_expr_eval.specs.declared.frame.Frame.TheVariants as f
use Rattle.esm_expr_eval.proofs.frame.compared_on.Goals as goal

pub returns-then-is_pushed-clause-tells : goal.returns-then-is_pushed-clause-tells
returns-then-is_pushed-clause-tells g c = λ world. rw (c.compare-truth.ensures, c.is_same.ensures) (steps.value_pushed g.W.World.url_of g.W.World.acts c.args.tree.now.exprs c.args.frames.now.items _ _ _ _ (f.Equal c.args.at c.args.next) _ (steps.compares g.W.World.url_of g.W.World.acts c.args.tree.now.exprs c.args.frames.now.items _ c.args.at c.args.next c.args.alike c.args.left (value_of c.args.value)) (c.if-is_pushed.ensures refl))

pub returns-then-is_pushed-clause-keeps : goal.returns-then-is_pushed-clause-keeps
returns-then-is_pushed-clause-keeps g c = steps.keeps_value c.args.tree.now.exprs c.args.frames.now.items _ (f.Equal c.args.at c.args.next) _ c.requires.frames c.requires.at (omega arith) (c.if-is_pushed.ensures refl)
