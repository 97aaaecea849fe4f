use Rattle.esm_limit_laws.proofs.Loaded.{order_free_loaded}
use Rattle.esm_limit_laws.proofs.laws.order_free_loaded.Goals as goal

pub returns : goal.returns
returns c maps built files entry trace one other others r of q none_asked = order_free_loaded maps built files entry trace one other others r of q none_asked
