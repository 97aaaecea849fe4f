use Rattle.esm_body.proofs.ScopesLemmas.{stmt_goes, stmts_end, below_at}
use Rattle.esm_body.proofs.scopes.add_block.Goals as goal

pub stmt-requires : goal.stmt-requires
stmt-requires c = below_at _ _ c.loop-id.id-index _ c.requires c.loop-id-test.true

pub loop-id-preserved : goal.loop-id-preserved
loop-id-preserved c = rw (c.in_ok-add_declared.ensures c.args.tree.now.exprs c.args.tree.now.stmts, ← c.stmt.ensures.node) (stmt_goes c.args.tree.now.stmts c.args.ids.now c.loop-id.id-index _ _ _ c.loop-id-test.true c.loop-id.invariant)

pub returns : goal.returns
returns c = stmts_end c.args.tree.now.stmts c.args.ids.now c.loop-id.id-index _ _ c.loop-id-test.false c.loop-id.invariant
