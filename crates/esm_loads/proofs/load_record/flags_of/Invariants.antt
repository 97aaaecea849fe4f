-- The ids before have their flags.
use Rattle.std.proofs.Common.{take}
use Rattle.esm_loads.specs.Inner.Flags.{AreFlags}
use Rattle.esm_loads.proofs.load_record.flags_of.Given as goal

abbrev pub invariant-loop-i : goal.invariant-loop-i
invariant-loop-i l = AreFlags l.flags.items (take l.i l.visited)
