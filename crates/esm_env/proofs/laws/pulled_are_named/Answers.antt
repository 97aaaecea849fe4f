use Rattle.esm_env.proofs.Pulled as lemmas
use Rattle.esm_env.proofs.laws.pulled_are_named.Goals as goal

pub returns : goal.returns
returns g c = lemmas.pulled_are_named g.A.Named.names
