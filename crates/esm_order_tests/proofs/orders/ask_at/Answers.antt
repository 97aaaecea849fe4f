use Rattle.std.proofs.Common.{arith}
use Rattle.esm_machine.specs.Machine.{state_of}
use Rattle.esm_order_tests.proofs.OrderLemmas.{may_take}
use Rattle.esm_order_tests.proofs.orders.ask_at.Goals as goal

pub returns : goal.returns
returns c =
    may_take (state_of c.args.machine.now) c.asks-asks.result.now c.args.place c.index-asks-place.result c.in_ok-clone.field-0 c.asks-asks.ensures.open (let within = c.if-place-asks.false in omega (arith, within))
    c.index-asks-place.is c.in_ok-clone.ensures
