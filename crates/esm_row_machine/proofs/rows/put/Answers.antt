use Rattle.std.proofs.lemmas.Result.{on_ok_weaker}
use Rattle.esm_row_machine.proofs.Adding.{put_grown}
use Rattle.esm_row_machine.proofs.rows.put.Goals as goal

pub returns : goal.returns
returns c =
    on_ok_weaker c.set_row.result (λ set. put_grown c.args.module.now.rows.items c.grow.new.rows.items c.set_row.new.rows.items c.args.function c.args.row c.in_ok-grow.ensures set) c.set_row.ensures
