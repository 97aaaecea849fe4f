use Rattle.std.proofs.Common.{ap}
use Rattle.std.specs.Prelude.{Some}
use Rattle.esm_body.proofs.writes.refuse.Goals as goal

pub returns-in-Ok : goal.returns-in-Ok
returns-in-Ok c = (ap Some c.in-Ok.ensures.0, c.in-Ok.ensures.1)
