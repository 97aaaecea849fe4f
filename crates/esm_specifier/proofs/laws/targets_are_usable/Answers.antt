use Rattle.esm_specifier.proofs.Requests.{targets_are_usable}
use Rattle.esm_specifier.proofs.laws.targets_are_usable.Goals as goal

pub returns : goal.returns
returns c = targets_are_usable
