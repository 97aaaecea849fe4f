use Rattle.esm_values.specs.Code.{value_of}
use Rattle.esm_eval.proofs.Inner.HostSteps as steps
use Rattle.esm_eval.proofs.host.EvalHost.fail_all.Given as goal

-- what is left to fail leads where the whole leads
abbrev pub invariant-loop-i : goal.invariant-loop-i
invariant-loop-i g l = steps.Failing g.B.Bodies.targets g.B.Bodies.awaits g.B.Bodies.begun g.B.Bodies.linked g.B.Bodies.knows g.B.Bodies.fits l.fn.self l.opened (value_of l.v) l.i l.self
