use Rattle.std.proofs.Common.{arith}
use Rattle.esm_values.specs.Code.{value_of}
use Rattle.esm_expr_eval.proofs.Steps as steps
use Rattle.esm_expr_eval.proofs.frame.go_on.Goals as goal

pub returns-in-Or-clause-tells : goal.returns-in-Or-clause-tells
returns-in-Or-clause-tells g c = rw c.in-Or.is (c.or_on.ensures.tells c.args.world.now)

pub returns-in-And-clause-tells : goal.returns-in-And-clause-tells
returns-in-And-clause-tells g c = rw c.in-And.is (c.and_on.ensures.tells c.args.world.now)

pub returns-in-Equal-clause-tells : goal.returns-in-Equal-clause-tells
returns-in-Equal-clause-tells g c = rw c.in-Equal.is (c.equal_on.ensures.tells c.args.world.now)

pub returns-in-Compared-clause-tells : goal.returns-in-Compared-clause-tells
returns-in-Compared-clause-tells g c = rw c.in-Compared.is (c.compared_on.ensures.tells c.args.world.now)

pub returns-in-Sum-clause-tells : goal.returns-in-Sum-clause-tells
returns-in-Sum-clause-tells g c = rw c.in-Sum.is (c.sum_on.ensures.tells c.args.world.now)

pub returns-in-Not-clause-tells : goal.returns-in-Not-clause-tells
returns-in-Not-clause-tells g c = rw (c.in-Not.is, c.is_true.ensures) (steps.not_goes g.W.World.url_of g.W.World.acts c.args.tree.now.exprs c.args.frames.now.items _ (value_of c.args.value))

pub returns-in-NewError-clause-tells : goal.returns-in-NewError-clause-tells
returns-in-NewError-clause-tells g c = rw c.in-NewError.is (steps.error_tells g.W.World.url_of g.W.World.acts c.args.tree.now.exprs c.args.frames.now.items _ _ (value_of c.args.value) _ c.error_on.ensures)

pub returns-in-NewError-clause-keeps : goal.returns-in-NewError-clause-keeps
returns-in-NewError-clause-keeps g c = rw c.in-NewError.is (steps.planned_keeps g.W.World.url_of g.W.World.acts c.args.tree.now.exprs c.args.frames.now.items _ _ _ _ _ c.requires.frames (omega arith) c.error_on.ensures)

pub returns-in-Import-clause-tells : goal.returns-in-Import-clause-tells
returns-in-Import-clause-tells g c = rw c.in-Import.is (steps.import_tells g.W.World.url_of g.W.World.acts c.args.tree.now.exprs c.args.frames.now.items _ _ (value_of c.args.value) _ c.import_on.ensures)

pub returns-in-Import-clause-keeps : goal.returns-in-Import-clause-keeps
returns-in-Import-clause-keeps g c = rw c.in-Import.is (steps.planned_keeps g.W.World.url_of g.W.World.acts c.args.tree.now.exprs c.args.frames.now.items _ _ _ _ _ c.requires.frames (omega arith) c.import_on.ensures)
