use Rattle.esm_direct_laws.proofs.Closures.{has_closure}
use Rattle.esm_direct_laws.proofs.laws.has_closure.Goals as goal

pub returns : goal.returns
returns c maps built files entry modules among = has_closure maps built files entry modules among
