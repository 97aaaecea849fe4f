use Rattle.esm_link.proofs.FromLinked as lemmas
use Rattle.esm_link.proofs.laws.links_from_linked.Goals as goal

pub returns : goal.returns
returns c = lemmas.links_from_linked
