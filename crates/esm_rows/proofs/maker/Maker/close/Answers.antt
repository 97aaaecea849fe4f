use Rattle.std.proofs.lemmas.Result.{on_ok_weaker}
use Rattle.esm_rows.specs.Making.{plain}
use Rattle.esm_rows.specs.declared.works.Work.TheVariants as w
use Rattle.esm_rows.proofs.Worked.{pay, next, plain_last}
use Rattle.esm_rows.proofs.maker.Maker.close.Goals as goal

pub returns : goal.returns
returns c = λ exprs stmts made owes.
    let d = next exprs stmts c.args.self.now.works.items (w.Begin c.args.begin) owes in
    on_ok_weaker c.put.result (λ told. rw c.pop_block.ensures (pay exprs stmts d told)) (c.put.ensures d.row (plain c.args.begin) d.told (plain_last c.args.self.now.works.items (w.Begin c.args.begin) owes.plain_works _))
