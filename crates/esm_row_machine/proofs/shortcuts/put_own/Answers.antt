use Rattle.std.proofs.Common.{refl}
use Rattle.std.specs.Prelude.{Ok, Err}
use Rattle.esm_row_machine.proofs.shortcuts.put_own.Goals as goal

pub returns-in-Ok-push : goal.returns-in-Ok-push
returns-in-Ok-push g c = λ left. record { told = Ok c.in-Ok.out; says = c.in-Ok.ensures; took = rw c.in-Value.is (refl, c.in-Ok-push.ensures) }

pub returns-in-Err-push : goal.returns-in-Err-push
returns-in-Err-push g c = λ left. record { told = Ok c.in-Ok.out; says = c.in-Ok.ensures; took = rw c.in-Value.is tt }

pub returns-in-Thrown : goal.returns-in-Thrown
returns-in-Thrown g c = λ left. record { told = Ok c.in-Ok.out; says = c.in-Ok.ensures; took = rw c.in-Thrown.is (refl, refl) }

pub returns-in-Err : goal.returns-in-Err
returns-in-Err g c = λ left. record { told = Err c.in-Err.stop; says = c.in-Err.ensures; took = refl }
