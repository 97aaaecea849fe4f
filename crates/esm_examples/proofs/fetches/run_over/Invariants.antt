use Rattle.std.proofs.Common.{◌-◌, length}
use Rattle.esm_machine.specs.Machine.{state_of}
use Rattle.esm_examples.specs.Inner.Driving.{IsDriven}
use Rattle.esm_examples.proofs.fetches.run_over.Given as goal

abbrev pub invariant-loop-fetched : goal.invariant-loop-fetched
invariant-loop-fetched l = IsDriven l.fn.map l.entry l.files (state_of l.machine) l.fetched.items

abbrev pub decreases-loop-fetched : goal.decreases-loop-fetched
decreases-loop-fetched l = 4096 - length l.fetched.items
