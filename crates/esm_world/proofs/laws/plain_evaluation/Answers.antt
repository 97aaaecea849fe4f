use Rattle.esm_world.proofs.Plain.{plain}
use Rattle.esm_world.proofs.laws.plain_evaluation.Goals as goal

pub returns : goal.returns
returns c to ms w opened end s p h o q = plain to ms w opened end s p h o q
