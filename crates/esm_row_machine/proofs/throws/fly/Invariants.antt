use Rattle.std.proofs.Common.{length}
use Rattle.esm_row_machine.proofs.Flown.{Flying}
use Rattle.esm_row_machine.proofs.throws.fly.Given as goal

-- the throw is under way still
abbrev pub invariant-leaving : goal.invariant-leaving
invariant-leaving g l = Flying g.W.Outside.state g.W.Outside.modules g.W.Outside.linked g.W.Outside.begins g.W.Outside.ready g.W.Outside.keeps g.W.Outside.owns l.fn._world l.fn.machine l.fn.frame l.thrown l.here l.machine

-- a function that waited is left in each round
abbrev pub decreases-leaving : goal.decreases-leaving
decreases-leaving g l = length l.machine.frames.items
