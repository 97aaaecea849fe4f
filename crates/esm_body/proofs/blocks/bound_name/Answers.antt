use Rattle.esm_body.proofs.blocks.bound_name.Goals as goal

pub returns-in-Const : goal.returns-in-Const
returns-in-Const c = rw (c.stmt.ensures.node, c.in-Const.is) (rw c.as_slice.ensures.value at (c.name_at.ensures c.args.tree.now.exprs))

pub returns-in-Let : goal.returns-in-Let
returns-in-Let c = rw (c.stmt.ensures.node, c.in-Let.is) (rw c.as_slice-in-Let.ensures.value at (c.name_at-in-Let.ensures c.args.tree.now.exprs))
