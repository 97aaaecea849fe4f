use Rattle.esm_specifier.proofs.Usable.{resolves_as_the_standard}
use Rattle.esm_specifier.proofs.laws.resolves_as_the_standard.Goals as goal

pub returns : goal.returns
returns c = resolves_as_the_standard
