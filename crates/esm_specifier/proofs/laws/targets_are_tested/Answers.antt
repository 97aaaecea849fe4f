use Rattle.esm_specifier.proofs.Requests.{targets_are_tested}
use Rattle.esm_specifier.proofs.laws.targets_are_tested.Goals as goal

pub returns : goal.returns
returns c = targets_are_tested
