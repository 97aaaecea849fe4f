use Rattle.esm_ast.proofs.Small.{spelled_few, requests_few}
use Rattle.esm_ast.proofs.laws.small.Goals as goal

pub returns : goal.returns
returns c = record { items = spelled_few; requests = requests_few }
