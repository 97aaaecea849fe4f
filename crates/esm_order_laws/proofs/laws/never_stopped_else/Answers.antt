use Rattle.esm_order_laws.proofs.OrderFreeAll.{never_stopped_else}
use Rattle.esm_order_laws.proofs.laws.never_stopped_else.Goals as goal

pub returns : goal.returns
returns c maps built files entry trace one others w r of p = never_stopped_else maps built files entry trace one others w r of p
