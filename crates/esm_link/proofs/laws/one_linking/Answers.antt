use Rattle.esm_link.proofs.OneLink.{one_linking}
use Rattle.esm_link.proofs.laws.one_linking.Goals as goal

pub returns : goal.returns
returns g c = one_linking _
