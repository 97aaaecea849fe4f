use Rattle.esm_module_map.proofs.Calls.{order_found}
use Rattle.esm_module_map.proofs.laws.orders_stay.Goals as goal

pub returns : goal.returns
returns g c = λ k n seen found there order. order_found g.P.Payload.weight k n seen found there.0 there.1 order
