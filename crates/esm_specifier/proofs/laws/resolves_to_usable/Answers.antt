use Rattle.esm_specifier.proofs.Usable.{resolves_to_usable}
use Rattle.esm_specifier.proofs.laws.resolves_to_usable.Goals as goal

pub returns : goal.returns
returns c = resolves_to_usable
