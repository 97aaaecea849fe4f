use Rattle.esm_link.proofs.Named as lemmas
use Rattle.esm_link.proofs.laws.linking_follows_names.Goals as goal

pub returns : goal.returns
returns g c = lemmas.linking_follows_names g.A.Named.names g.A.Named.same g.A.Named.other
