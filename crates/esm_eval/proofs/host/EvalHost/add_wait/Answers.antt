use Rattle.std.proofs.Common.{◌<◌, sym, subst}
use Rattle.esm_eval.specs.Host.{HostFits, evaluation}
use Rattle.esm_eval.specs.Counts.{unentered}
use Rattle.esm_eval.specs.WalkSteps.{Keeps}
use Rattle.esm_eval.proofs.Inner.HostSteps as steps
use Rattle.esm_eval.proofs.Inner.DeskSteps as desk
use Rattle.esm_eval.proofs.host.EvalHost.add_wait.Goals as goal

pub push_wait-requires-clause-has : goal.push_wait-requires-clause-has
push_wait-requires-clause-has g c = c.requires.fits.have c.args.x c.requires.linked

pub push_wait-requires-clause-other : goal.push_wait-requires-clause-other
push_wait-requires-clause-other g c = c.requires.fits.have c.args.y c.requires.other

pub push_waiter-requires-clause-has : goal.push_waiter-requires-clause-has
push_waiter-requires-clause-has g c = subst (λ t. c.args.y < Rattle.esm_eval.specs.Table.size t) (sym c.in-Ok.ensures.ok) ((steps.fits_wait g.B.Bodies.targets g.B.Bodies.awaits g.B.Bodies.begun g.B.Bodies.linked g.B.Bodies.knows g.B.Bodies.fits c.args.self.now c.args.x c.args.y c.requires.fits c.requires.linked c.requires.other).have c.args.y c.requires.other)

pub push_waiter-requires-clause-other : goal.push_waiter-requires-clause-other
push_waiter-requires-clause-other g c = subst (λ t. c.args.x < Rattle.esm_eval.specs.Table.size t) (sym c.in-Ok.ensures.ok) ((steps.fits_wait g.B.Bodies.targets g.B.Bodies.awaits g.B.Bodies.begun g.B.Bodies.linked g.B.Bodies.knows g.B.Bodies.fits c.args.self.now c.args.x c.args.y c.requires.fits c.requires.linked c.requires.other).have c.args.x c.requires.linked)

pub returns-in-Ok-clause-world : goal.returns-in-Ok-clause-world
returns-in-Ok-clause-world g c = (desk.waits_world g.B.Bodies.targets g.B.Bodies.awaits g.B.Bodies.begun g.B.Bodies.linked g.B.Bodies.knows c.args.self.now c.args.x c.args.y c.push_wait.new.self c.push_waiter.new.self c.push_waiter.result c.in-Ok.ensures.ok c.push_waiter.ensures.ok)

pub returns-in-Ok-clause-keeps : goal.returns-in-Ok-clause-keeps
returns-in-Ok-clause-keeps g c = desk.on_ok_map c.push_waiter.result (desk.waits_world g.B.Bodies.targets g.B.Bodies.awaits g.B.Bodies.begun g.B.Bodies.linked g.B.Bodies.knows c.args.self.now c.args.x c.args.y c.push_wait.new.self c.push_waiter.new.self c.push_waiter.result c.in-Ok.ensures.ok c.push_waiter.ensures.ok) (λ e. subst (λ s. Keeps (evaluation g.B.Bodies.targets g.B.Bodies.awaits g.B.Bodies.begun) (λ u. g.B.Bodies.linked u.bodies) (λ u. unentered u.nodes) c.args.self.now s) (sym e) (steps.keeps_waits g.B.Bodies.targets g.B.Bodies.awaits g.B.Bodies.begun g.B.Bodies.linked g.B.Bodies.knows g.B.Bodies.fits c.args.self.now c.args.x c.args.y c.requires.fits c.requires.linked c.requires.other))

pub returns-in-Ok-clause-fits : goal.returns-in-Ok-clause-fits
returns-in-Ok-clause-fits g c = desk.on_ok_map c.push_waiter.result (desk.waits_world g.B.Bodies.targets g.B.Bodies.awaits g.B.Bodies.begun g.B.Bodies.linked g.B.Bodies.knows c.args.self.now c.args.x c.args.y c.push_wait.new.self c.push_waiter.new.self c.push_waiter.result c.in-Ok.ensures.ok c.push_waiter.ensures.ok) (λ e. subst (λ s. HostFits g.B.Bodies.fits g.B.Bodies.linked g.B.Bodies.knows s) (sym e) (steps.fits_waiter g.B.Bodies.targets g.B.Bodies.awaits g.B.Bodies.begun g.B.Bodies.linked g.B.Bodies.knows g.B.Bodies.fits _ c.args.y c.args.x (steps.fits_wait g.B.Bodies.targets g.B.Bodies.awaits g.B.Bodies.begun g.B.Bodies.linked g.B.Bodies.knows g.B.Bodies.fits c.args.self.now c.args.x c.args.y c.requires.fits c.requires.linked c.requires.other) c.requires.other c.requires.linked))
