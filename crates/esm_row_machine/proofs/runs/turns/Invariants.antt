use Rattle.esm_row_machine.proofs.AtOnce.{Amid}
use Rattle.esm_row_machine.proofs.runs.turns.Given as goal

-- what is left leads where the whole leads
abbrev pub invariant-functions : goal.invariant-functions
invariant-functions g l = Amid g.W.Outside.state g.W.Outside.modules g.W.Outside.linked g.W.Outside.begins g.W.Outside.ready g.W.Outside.keeps g.W.Outside.owns l.fn.world l.fn.machine l.rows l.fn.frame l.frame l.row l.left l.world l.machine

abbrev pub invariant-turning : goal.invariant-turning
invariant-turning g l = Amid g.W.Outside.state g.W.Outside.modules g.W.Outside.linked g.W.Outside.begins g.W.Outside.ready g.W.Outside.keeps g.W.Outside.owns l.fn.world l.fn.machine l.rows l.fn.frame l.frame l.row l.left l.world l.machine

abbrev pub decreases-turning : goal.decreases-turning
decreases-turning g l = l.left
