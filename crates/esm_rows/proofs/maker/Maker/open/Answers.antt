use Rattle.std.proofs.lemmas.Result.{on_ok_weaker}
use Rattle.esm_rows.specs.Making.{plain}
use Rattle.esm_rows.specs.Locals.{declared}
use Rattle.esm_rows.proofs.Worked.{opened}
use Rattle.esm_rows.proofs.maker.Maker.open.Goals as goal

pub returns : goal.returns
returns c = λ exprs stmts made is_close is_begin owes. on_ok_weaker c.push_block.result (opened exprs stmts (declared c.args.block) c.args.ids.now c.args.close c.args.begin c.args.self.now.works.items _ _ _ is_begin owes (c.in_ok-put.ensures owes.row (plain c.args.close) owes.told (is_close _)) c.in_ok-push_work.ensures c.in_ok-push_statements.ensures) c.push_block.ensures
