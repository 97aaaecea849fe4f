use Rattle.esm_direct_laws.proofs.AskClosure.{asks_closure}
use Rattle.esm_direct_laws.proofs.laws.asks_closure.Goals as goal

pub returns : goal.returns
returns c = asks_closure
