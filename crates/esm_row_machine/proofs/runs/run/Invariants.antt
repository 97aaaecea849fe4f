use Rattle.esm_row_machine.proofs.Followed.{Running}
use Rattle.esm_row_machine.proofs.runs.run.Given as goal

-- what is left leads where the whole leads
abbrev pub invariant-running : goal.invariant-running
invariant-running g l = Running g.W.Outside.state g.W.Outside.modules g.W.Outside.linked g.W.Outside.begins g.W.Outside.ready g.W.Outside.keeps g.W.Outside.owns l.fn.world l.fn.machine l.fn.rows l.fn.frame l.here l.world l.machine l.rows
