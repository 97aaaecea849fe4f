use Rattle.esm_link.proofs.LinksWhole.{links_whole}
use Rattle.esm_link.proofs.laws.links_whole.Goals as goal

pub returns : goal.returns
returns g c = links_whole _
