use Rattle.std.proofs.lemmas.Result.{on_ok_weaker}
use Rattle.esm_rows.proofs.Worked.{pay}
use Rattle.esm_rows.proofs.maker.Maker.assign.Goals as goal

pub returns : goal.returns
returns c = λ made owes. on_ok_weaker c.put_assign.result (pay c.args.tree.now.exprs c.args.tree.now.stmts owes) (rw c.as_slice.ensures.value at (c.put_assign.ensures owes.row owes.told))
