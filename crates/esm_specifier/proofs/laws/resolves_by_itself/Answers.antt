use Rattle.esm_specifier.proofs.Usable.{resolves_by_itself}
use Rattle.esm_specifier.proofs.laws.resolves_by_itself.Goals as goal

pub returns : goal.returns
returns c = resolves_by_itself
