use Rattle.std.proofs.Common.{refl, ap, sym, subst, ◌∙◌}
use Rattle.esm_eval.specs.Table.{size}
use Rattle.esm_eval.specs.Host.{HostFits, evaluation}
use Rattle.esm_eval.specs.Counts.{unentered}
use Rattle.esm_eval.specs.WalkSteps.{Keeps}
use Rattle.esm_eval.proofs.Inner.HostSteps as steps
use Rattle.esm_eval.proofs.Inner.BodySteps as body
use Rattle.esm_eval.proofs.Inner.DeskSteps as desk
use Rattle.esm_eval.proofs.desk.EvalHostDesk.keep.Goals as goal

pub set_promise-requires : goal.set_promise-requires
set_promise-requires g c = c.requires.fits.have c.args.m c.requires.linked

pub returns-in-Ok-clause-world : goal.returns-in-Ok-clause-world
returns-in-Ok-clause-world g c = (desk.keep_world g.B.Bodies.targets g.B.Bodies.awaits g.B.Bodies.begun g.B.Bodies.linked g.B.Bodies.knows c.args.self.now c.args.m c.set_promise.new.self c.make.new.self c.in-Ok.p.0 c.in-Ok.ensures.ok c.in-Ok.ensures.id c.set_promise.ensures)

pub returns-in-Ok-clause-keeps : goal.returns-in-Ok-clause-keeps
returns-in-Ok-clause-keeps g c = subst (λ s. Keeps (evaluation g.B.Bodies.targets g.B.Bodies.awaits g.B.Bodies.begun) (λ u. g.B.Bodies.linked u.bodies) (λ u. unentered u.nodes) c.args.self.now s) (sym (desk.keep_world g.B.Bodies.targets g.B.Bodies.awaits g.B.Bodies.begun g.B.Bodies.linked g.B.Bodies.knows c.args.self.now c.args.m c.set_promise.new.self c.make.new.self c.in-Ok.p.0 c.in-Ok.ensures.ok c.in-Ok.ensures.id c.set_promise.ensures)) (desk.keeps_keep g.B.Bodies.targets g.B.Bodies.awaits g.B.Bodies.begun g.B.Bodies.linked g.B.Bodies.knows g.B.Bodies.fits c.args.self.now c.args.m c.requires.fits c.requires.linked)

pub returns-in-Ok-clause-fits : goal.returns-in-Ok-clause-fits
returns-in-Ok-clause-fits g c = subst (λ s. HostFits g.B.Bodies.fits g.B.Bodies.linked g.B.Bodies.knows s) (sym (desk.keep_world g.B.Bodies.targets g.B.Bodies.awaits g.B.Bodies.begun g.B.Bodies.linked g.B.Bodies.knows c.args.self.now c.args.m c.set_promise.new.self c.make.new.self c.in-Ok.p.0 c.in-Ok.ensures.ok c.in-Ok.ensures.id c.set_promise.ensures)) (steps.fits_plain g.B.Bodies.targets g.B.Bodies.awaits g.B.Bodies.begun g.B.Bodies.linked g.B.Bodies.knows g.B.Bodies.fits _ c.args.m _ (body.fits_make g.B.Bodies.targets g.B.Bodies.awaits g.B.Bodies.begun g.B.Bodies.linked g.B.Bodies.knows g.B.Bodies.acts g.B.Bodies.fits g.B.Bodies.stays_fit c.args.self.now c.requires.fits) c.requires.linked refl refl refl refl)

pub returns-in-Ok-clause-knows : goal.returns-in-Ok-clause-knows
returns-in-Ok-clause-knows g c = λ u k. k

pub returns-in-Ok-clause-size : goal.returns-in-Ok-clause-size
returns-in-Ok-clause-size g c = ap (λ t. size t) c.set_promise.ensures ∙ steps.size_put c.args.self.now.nodes c.args.m _ (c.requires.fits.have c.args.m c.requires.linked)
