use Rattle.esm_machine_tests.specs.Fresh.{IsFresh}
use Rattle.esm_machine_tests.proofs.store.answer_all.Given as goal

abbrev pub invariant-loop-round : goal.invariant-loop-round
invariant-loop-round l = IsFresh l.store
