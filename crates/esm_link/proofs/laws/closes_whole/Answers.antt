use Rattle.esm_link.proofs.ClosedLinks.{closes_whole}
use Rattle.esm_link.proofs.laws.closes_whole.Goals as goal

pub returns : goal.returns
returns g c = closes_whole _
