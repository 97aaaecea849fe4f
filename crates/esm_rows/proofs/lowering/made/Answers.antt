use Rattle.esm_rows.proofs.lowering.made.Goals as goal

pub returns : goal.returns
returns c = c.in_ok-run.ensures _ (c.in_ok-maker.ensures c.args.tree.now.exprs c.args.tree.now.stmts)
