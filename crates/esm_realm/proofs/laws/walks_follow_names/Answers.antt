use Rattle.esm_realm.proofs.Named as lemmas
use Rattle.esm_realm.proofs.laws.walks_follow_names.Goals as goal

pub returns : goal.returns
returns g c = lemmas.walks_follow_names g.A.Named.name
