use Rattle.std.proofs.Common.{refl}
use Rattle.esm_body.proofs.writes.set_value.Goals as goal

pub returns : goal.returns
returns c = (refl, refl, c.set.ensures)
