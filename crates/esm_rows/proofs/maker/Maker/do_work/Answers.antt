use Rattle.std.proofs.lemmas.Result.{on_ok_weaker}
use Rattle.esm_rows.specs.Making.{plain}
use Rattle.esm_rows.specs.declared.works.Work.TheVariants as w
use Rattle.esm_rows.proofs.Worked.{pay, next, plain_last}
use Rattle.esm_rows.proofs.maker.Maker.do_work.Goals as goal

pub returns-in-Put : goal.returns-in-Put
returns-in-Put c = λ made owes.
    let given = rw c.in-Put.is at owes in
    let d = next c.args.tree.now.exprs c.args.tree.now.stmts c.args.self.now.works.items (w.Put c.in-Put.op) given in
    on_ok_weaker c.put.result (pay c.args.tree.now.exprs c.args.tree.now.stmts d) (c.put.ensures d.row (plain c.in-Put.op) d.told (plain_last c.args.self.now.works.items (w.Put c.in-Put.op) given.plain_works _))

pub returns-in-Statement : goal.returns-in-Statement
returns-in-Statement c = λ made owes. c.statement.ensures made (next c.args.tree.now.exprs c.args.tree.now.stmts c.args.self.now.works.items (w.Statement c.in-Statement.id) (rw c.in-Statement.is at owes))

pub returns-in-Value : goal.returns-in-Value
returns-in-Value c = λ made owes.
    let d = next c.args.tree.now.exprs c.args.tree.now.stmts c.args.self.now.works.items (w.Value c.in-Value.id) (rw c.in-Value.is at owes) in
    on_ok_weaker c.put_expr.result (pay c.args.tree.now.exprs c.args.tree.now.stmts d) (rw c.as_slice.ensures.value at (c.put_expr.ensures d.row d.told))

pub returns-in-Begin : goal.returns-in-Begin
returns-in-Begin c = λ made owes. c.close.ensures c.args.tree.now.exprs c.args.tree.now.stmts made (rw c.in-Begin.is at owes)

pub returns-in-First : goal.returns-in-First
returns-in-First c = λ made owes. c.first.ensures made (next c.args.tree.now.exprs c.args.tree.now.stmts c.args.self.now.works.items (w.First c.in-First.id c.in-First.left) (rw c.in-First.is at owes))

pub returns-in-Tried : goal.returns-in-Tried
returns-in-Tried c = λ made owes. c.tried.ensures made (next c.args.tree.now.exprs c.args.tree.now.stmts c.args.self.now.works.items (w.Tried c.in-Tried.id c.in-Tried.left) (rw c.in-Tried.is at owes))
