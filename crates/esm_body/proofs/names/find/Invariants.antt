use Rattle.std.proofs.Common.{◌-◌, ◌≤◌, length}
use Rattle.esm_body.specs.Inner.Names.{NoneFrom}
use Rattle.esm_body.proofs.names.find.Given as goal

abbrev pub invariant-loop-at : goal.invariant-loop-at
invariant-loop-at l = record { within : l.at ≤ length l.levels; none : NoneFrom l.levels l.at l.name }

abbrev pub decreases-loop-at : goal.decreases-loop-at
decreases-loop-at l = l.at - 1
