use Rattle.esm_machine.specs.Machine.{state_of}
use Rattle.esm_order_tests.proofs.OrderLemmas.{may_take_open}
use Rattle.esm_order_tests.proofs.standard.hand_over.Goals as goal

pub deliver-requires : goal.deliver-requires
deliver-requires c = may_take_open (state_of c.args.machine.now) _ c.requires
