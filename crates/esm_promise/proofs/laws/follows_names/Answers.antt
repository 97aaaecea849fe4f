use Rattle.esm_promise.proofs.Renamed as lemmas
use Rattle.esm_promise.proofs.laws.follows_names.Goals as goal

pub returns : goal.returns
returns g c = lemmas.follows_names g.A.Naming.name
