use Rattle.esm_link.proofs.HasLinking.{has_linking}
use Rattle.esm_link.proofs.laws.has_linking.Goals as goal

pub returns : goal.returns
returns g c = has_linking _
