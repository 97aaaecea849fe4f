use Rattle.esm_row_machine.proofs.Followed.{on_ok}
use Rattle.esm_row_machine.proofs.calls.call_function.Goals as goal

pub returns-in-Ok : goal.returns-in-Ok
returns-in-Ok g c = (c.begin.ensures, on_ok c.begin.result c.in-Ok.ensures)
