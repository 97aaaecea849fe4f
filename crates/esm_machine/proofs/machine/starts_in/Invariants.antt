use Rattle.std.proofs.Common.{◌≡◌, ◌≤◌, ◌+◌, drop}
use Rattle.esm_machine.proofs.Counted.{starts}
use Rattle.esm_machine.proofs.machine.starts_in.Given as goal

-- so far, and those that are left
abbrev pub invariant-loop-event : goal.invariant-loop-event
invariant-loop-event l = record {
  so : l.count + starts (drop l.event-index l.events) ≡ starts l.events;
  small : l.count ≤ l.event-index;
}
