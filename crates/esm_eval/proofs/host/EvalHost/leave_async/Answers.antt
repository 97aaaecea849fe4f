use Rattle.std.proofs.Common.{sym, subst}
use Rattle.esm_eval.specs.Host.{HostFits, calls, evaluation}
use Rattle.esm_eval.specs.Counts.{unentered}
use Rattle.esm_eval.specs.EndSteps.{Begins}
use Rattle.esm_eval.proofs.Inner.HostSteps as steps
use Rattle.esm_eval.proofs.Inner.BodySteps as body
use Rattle.esm_eval.proofs.Inner.DeskSteps as desk
use Rattle.esm_eval.proofs.host.EvalHost.leave_async.Goals as goal

pub add_stamp-requires : goal.add_stamp-requires
add_stamp-requires g c = c.requires.fits.have c.args.x c.requires.linked

pub begin-requires-clause-fits : goal.begin-requires-clause-fits
begin-requires-clause-fits g c = subst (λ t. HostFits g.B.Bodies.fits g.B.Bodies.linked g.B.Bodies.knows (record c.args.self.now { nodes = t })) (sym c.in-Ok.ensures.ok) (steps.fits_stamp g.B.Bodies.targets g.B.Bodies.awaits g.B.Bodies.begun g.B.Bodies.linked g.B.Bodies.knows g.B.Bodies.fits c.args.self.now c.args.x c.requires.fits c.requires.linked)

pub returns-in-Ok-clause-leaves : goal.returns-in-Ok-clause-leaves
returns-in-Ok-clause-leaves g c = body.leaves_async g.B.Bodies.targets g.B.Bodies.awaits g.B.Bodies.begun g.B.Bodies.linked g.B.Bodies.knows g.B.Bodies.acts c.args.self.now c.begin.new.self c.args.x c.requires.free c.requires.awaits (λ u. unentered u.nodes) c.begin.result (subst (λ t. Begins (evaluation g.B.Bodies.targets g.B.Bodies.awaits g.B.Bodies.begun) (calls g.B.Bodies.acts) (record c.args.self.now { nodes = t }) c.args.x c.begin.result c.begin.new.self) c.in-Ok.ensures.ok c.begin.ensures.begins) (desk.async_keeps g.B.Bodies.targets g.B.Bodies.awaits g.B.Bodies.begun g.B.Bodies.linked g.B.Bodies.knows c.args.self.now c.begin.new.self c.args.x c.add_stamp.new.self c.begin.result c.in-Ok.ensures.ok c.begin.ensures.nodes c.begin.ensures.modules)
