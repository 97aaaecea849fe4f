use Rattle.std.proofs.Common.{vec_len}
use Rattle.esm_order_tests.proofs.orders.next_choices.Given as goal

abbrev pub invariant-loop-choice : goal.invariant-loop-choice
invariant-loop-choice l = Unit {0}

abbrev pub decreases-loop-choice : goal.decreases-loop-choice
decreases-loop-choice l = vec_len l.choices
