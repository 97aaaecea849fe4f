use Rattle.esm_env.proofs.Named as lemmas
use Rattle.esm_env.proofs.laws.follows_names.Goals as goal

pub returns : goal.returns
returns g c = lemmas.follows_names g.A.Named.names g.A.Named.same g.A.Named.other
