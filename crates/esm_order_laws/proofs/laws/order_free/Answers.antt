use Rattle.esm_order_laws.proofs.OrderFreeAll.{order_free}
use Rattle.esm_order_laws.proofs.laws.order_free.Goals as goal

pub returns : goal.returns
returns c maps built files entry trace one other others r of q none_asked = order_free maps built files entry trace one other others r of q none_asked
