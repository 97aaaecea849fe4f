use Rattle.std.proofs.lemmas.Result.{on_ok_weaker}
use Rattle.esm_rows.proofs.Worked.{pay}
use Rattle.esm_rows.proofs.maker.Maker.defaults.Goals as goal

pub returns : goal.returns
returns c = λ made owes. on_ok_weaker c.put_default.result (pay c.args.tree.now.exprs c.args.tree.now.stmts owes) (rw c.as_slice.ensures.value at (c.put_default.ensures owes.row owes.told))
