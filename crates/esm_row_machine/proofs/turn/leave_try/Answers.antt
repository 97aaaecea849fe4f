use Rattle.esm_row_machine.proofs.Results.{goes_more}
use Rattle.esm_row_machine.proofs.turn.leave_try.Goals as goal

pub returns-in-Ok : goal.returns-in-Ok
returns-in-Ok c = goes_more c.args.left _ _ (λ names. (names, (_, c.in-Ok.ensures))) c.leave.result c.leave.ensures
