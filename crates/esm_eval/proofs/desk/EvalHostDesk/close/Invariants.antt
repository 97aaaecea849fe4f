use Rattle.esm_eval.proofs.Inner.HostSteps as steps
use Rattle.esm_eval.proofs.desk.EvalHostDesk.close.Given as goal

-- what is left to close leads where the whole leads
abbrev pub invariant-loop-i : goal.invariant-loop-i
invariant-loop-i g l = steps.Closing g.B.Bodies.targets g.B.Bodies.awaits g.B.Bodies.begun g.B.Bodies.linked g.B.Bodies.knows g.B.Bodies.fits l.fn.self l.x l.opened l.place l.i l.self
