use Rattle.esm_link.proofs.Local as lemmas
use Rattle.esm_link.proofs.laws.linking_is_local.Goals as goal

pub returns : goal.returns
returns g c = lemmas.linking_is_local _
