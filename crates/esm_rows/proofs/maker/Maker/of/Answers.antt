use Rattle.std.proofs.Common.{[], refl}
use Rattle.esm_rows.specs.Rows.{Operation as o}
use Rattle.esm_rows.specs.Locals.{declared}
use Rattle.esm_rows.proofs.Worked.{started}
use Rattle.esm_rows.proofs.maker.Maker.of.Goals as goal

pub returns : goal.returns
returns c = λ exprs stmts. started exprs stmts (declared c.args.block) c.args.body.now _ _ _ _ (rw c.new-works.ensures.items at c.in_ok-push_statements.ensures) (rw c.new-blocks.ensures.items at c.in_ok-push_block.ensures) (c.in_ok-put.ensures [] o.End c.new-draft.ensures refl)
