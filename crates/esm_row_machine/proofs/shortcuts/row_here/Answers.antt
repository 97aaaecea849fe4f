use Rattle.std.proofs.Common.{arith}
use Rattle.esm_row_machine.proofs.shortcuts.row_here.Goals as goal

pub returns-else-frame-len : goal.returns-else-frame-len
returns-else-frame-len c = record { there = c.in-Some.ensures; within = omega (arith, c.if-frame-len.false, c.len.ensures, c.in-Some.row.now.ops.ok.0) }
