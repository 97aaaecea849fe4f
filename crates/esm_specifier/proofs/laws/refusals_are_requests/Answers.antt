use Rattle.esm_specifier.proofs.Requests.{refusals_are_requests}
use Rattle.esm_specifier.proofs.laws.refusals_are_requests.Goals as goal

pub returns : goal.returns
returns c = refusals_are_requests
