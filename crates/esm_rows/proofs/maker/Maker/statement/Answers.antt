use Rattle.std.proofs.Common.{refl}
use Rattle.std.proofs.lemmas.Result.{on_ok_weaker}
use Rattle.esm_rows.specs.Rows.{Operation as o}
use Rattle.esm_rows.proofs.Worked.{pay}
use Rattle.esm_rows.proofs.maker.Maker.statement.Goals as goal

pub returns-in-Some : goal.returns-in-Some
returns-in-Some c = λ made owes. c.node.ensures made c.in-Some.ensures (rw c.in-Some.ensures at owes)

pub returns-in-None : goal.returns-in-None
returns-in-None c = λ made owes.
    let d = rw c.in-None.ensures at owes in
    on_ok_weaker c.put.result (pay c.args.tree.now.exprs c.args.tree.now.stmts d) (c.put.ensures d.row o.Step d.told refl)
