use Rattle.esm_order_laws.proofs.OneDirect.{one_direct_run}
use Rattle.esm_order_laws.proofs.laws.one_direct_run.Goals as goal

pub returns : goal.returns
returns c maps built files entry trace xs ys one other what clean p q s = one_direct_run maps built files entry trace xs ys one other what clean p q s
