use Rattle.std.proofs.Common.{◌≡◌, refl, subst}
use Rattle.std.specs.Prelude.{Ok, Err}
use Rattle.esm_run.specs.CommandMap.{map_said}
use Rattle.esm_run.proofs.command_map.given_map.Goals as goal

pub returns-in-Ok : goal.returns-in-Ok
returns-in-Ok c = (subst (λ b. map_said b c.args.base.now ≡ Ok c.in-Ok.map) c.deref.ensures.value c.in-Ok.ensures, refl)

pub returns-in-Err-Fault : goal.returns-in-Err-Fault
returns-in-Err-Fault c = subst (λ b. map_said b c.args.base.now ≡ Err c.in-Err-Fault.refusal) c.deref.ensures.value (rw c.in-Err-Fault.field-0-is at c.in-Err-Fault.ensures)
