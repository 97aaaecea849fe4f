use Rattle.esm_row_machine.proofs.Flown.{throws_fly}
use Rattle.esm_row_machine.proofs.throws.throw.Goals as goal

pub returns : goal.returns
returns g c = λ w0 h ws body t. c.fly.ensures w0 h ws body (throws_fly g.W.Outside.state g.W.Outside.modules g.W.Outside.linked g.W.Outside.begins g.W.Outside.ready g.W.Outside.keeps g.W.Outside.owns w0 h ws body c.args.frame _ c.args.world.now c.args.machine.now t)
