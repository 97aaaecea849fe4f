use Rattle.esm_eval.proofs.Whole.{hosts_may_evaluate}
use Rattle.esm_eval.proofs.laws.hosts_may_evaluate.Goals as goal

pub returns : goal.returns
returns g c = hosts_may_evaluate g.B.Bodies.targets g.B.Bodies.awaits g.B.Bodies.begun g.B.Bodies.linked g.B.Bodies.knows g.B.Bodies.fits
