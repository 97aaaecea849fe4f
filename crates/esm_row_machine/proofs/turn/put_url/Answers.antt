use Rattle.std.proofs.Common.{refl}
use Rattle.std.specs.Prelude.{Ok}
use Rattle.esm_row_machine.proofs.turn.put_url.Goals as goal

pub returns-in-Ok : goal.returns-in-Ok
returns-in-Ok g c = record { told = Ok c.in-Ok.url; says = c.in-Ok.ensures; put = c.put.ensures }

pub returns-in-Err : goal.returns-in-Err
returns-in-Err g c = record { told = c.url.result; says = c.url.ensures; put = rw c.in-Err.is refl }
