use Rattle.std.proofs.Common.{arith}
use Rattle.std.proofs.lemmas.Result.{on_ok_weaker}
use Rattle.esm_row_machine.proofs.Splitting.{index_get}
use Rattle.esm_row_machine.proofs.Adding.{module_set}
use Rattle.esm_row_machine.proofs.rows.put_in.Goals as goal

pub returns-then-m-len : goal.returns-then-m-len
returns-then-m-len c =
    let ms = c.args.modules.now.items in
    let at = index_get ms c.args.m c.index_mut.result.now (omega (arith, c.if-m-len.true, c.len.ensures, c.args.modules.now.ok.0)) c.index_mut.ensures.value in
    on_ok_weaker c.put.result (λ put. module_set ms c.args.m c.args.function c.index_mut.result.now c.put.new.module c.args.row at put) c.put.ensures
