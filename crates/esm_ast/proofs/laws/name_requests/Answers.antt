use Rattle.esm_ast.proofs.Requests.{names_requests}
use Rattle.esm_ast.proofs.laws.name_requests.Goals as goal

pub returns : goal.returns
returns c = names_requests
