use Rattle.std.proofs.lemmas.Result.{on_ok_weaker}
use Rattle.esm_row_machine.proofs.Adding.{module_put}
use Rattle.esm_row_machine.proofs.rows.Rows.add.Goals as goal

pub returns : goal.returns
returns c =
    on_ok_weaker c.put_in.result (λ put. module_put c.args.self.now.modules.items c.grow_modules.new.modules.items c.put_in.new.modules.items c.args.m.0 c.args.function c.args.row c.in_ok-grow_modules.ensures put) c.put_in.ensures
