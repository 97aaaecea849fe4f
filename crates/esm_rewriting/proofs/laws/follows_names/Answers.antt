use Rattle.esm_rewriting.proofs.NamedBodies as lemmas
use Rattle.esm_rewriting.proofs.laws.follows_names.Goals as goal

pub returns : goal.returns
returns g c =
    lemmas.follows_names g.A.Named.names g.A.Named.image g.A.Named.good g.A.Named.same g.A.Named.other g.A.Named.modules g.A.Named.images g.A.Named.begins g.A.Named.others
