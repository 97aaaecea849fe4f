use Rattle.esm_specifier.proofs.Keys.GreatestLaw.{greatest_law}
use Rattle.esm_specifier.proofs.laws.greatest_is.Goals as goal

pub returns : goal.returns
returns c = greatest_law
