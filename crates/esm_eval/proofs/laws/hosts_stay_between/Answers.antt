use Rattle.esm_eval.proofs.Between.{hosts_stay_between}
use Rattle.esm_eval.proofs.laws.hosts_stay_between.Goals as goal

pub returns : goal.returns
returns g c = hosts_stay_between g.B.Bodies.targets g.B.Bodies.awaits g.B.Bodies.begun
