use Rattle.std.proofs.lemmas.Result.{on_ok_weaker}
use Rattle.esm_rows.proofs.Worked.{pay}
use Rattle.esm_rows.proofs.maker.Maker.awaited.Goals as goal

pub returns : goal.returns
returns c = λ made p is owes. on_ok_weaker c.put_awaited.result (pay c.args.tree.now.exprs c.args.tree.now.stmts owes) (rw c.as_slice.ensures.value at (c.put_awaited.ensures owes.row p owes.told is))
