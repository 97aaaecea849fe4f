use Rattle.std.proofs.Common.{sym, subst}
use Rattle.esm_eval.specs.Host.{HostFits, calls}
use Rattle.esm_eval.proofs.Inner.HostSteps as steps
use Rattle.esm_eval.proofs.Inner.DeskSteps as desk
use Rattle.esm_eval.proofs.desk.EvalHostDesk.leave.Goals as goal

pub add_stamp-requires : goal.add_stamp-requires
add_stamp-requires g c = c.requires.fits.have c.args.x c.requires.linked

pub leave_free-requires-clause-free : goal.leave_free-requires-clause-free
leave_free-requires-clause-free g c = desk.says c.waits_for_none.result c.waits_for_none.ensures c.if-waits_for_none.true

pub returns-in-Ok-clause-leaves : goal.returns-in-Ok-clause-leaves
returns-in-Ok-clause-leaves g c = desk.leaves_waiting g.B.Bodies.targets g.B.Bodies.awaits g.B.Bodies.begun g.B.Bodies.linked g.B.Bodies.knows (calls g.B.Bodies.acts) c.args.self.now c.args.x c.args.opened.now c.add_stamp.new.self (desk.denies c.waits_for_none.result c.waits_for_none.ensures c.if-waits_for_none.false) c.in-Ok.ensures.ok

pub returns-in-Ok-clause-fits : goal.returns-in-Ok-clause-fits
returns-in-Ok-clause-fits g c = subst (λ t. HostFits g.B.Bodies.fits g.B.Bodies.linked g.B.Bodies.knows (record c.args.self.now { nodes = t })) (sym c.in-Ok.ensures.ok) (steps.fits_stamp g.B.Bodies.targets g.B.Bodies.awaits g.B.Bodies.begun g.B.Bodies.linked g.B.Bodies.knows g.B.Bodies.fits c.args.self.now c.args.x c.requires.fits c.requires.linked)
