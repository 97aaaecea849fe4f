use Rattle.std.proofs.Common.{[], ◌∷◌, refl, ap, sym, subst, ◌∙◌}
use Rattle.esm_promise.specs.Promises as promise
use Rattle.esm_promise.specs.Reactions as reaction
use Rattle.esm_eval.specs.Host.{outside_with}
use Rattle.esm_eval.proofs.Inner.BodySteps as body
use Rattle.esm_eval.proofs.Inner.DeskSteps as desk
use Rattle.esm_eval.proofs.host.EvalHost.begin.Goals as goal

pub start-requires-clause-pending : goal.start-requires-clause-pending
start-requires-clause-pending g c = body.just_made c.args.self.now.promises c.make_with.new.self _ c.in-Ok.end.0 c.in-Ok.ensures.ok c.in-Ok.ensures.id

pub start-requires-clause-fits : goal.start-requires-clause-fits
start-requires-clause-fits g c = subst (λ ps. g.B.Bodies.fits (outside_with ps c.args.self.now.bodies)) (sym (c.in-Ok.ensures.ok ∙ ap (λ s. promise.make c.args.self.now.promises (reaction.BodyEnd s ∷ [])) c.from.ensures)) (g.B.Bodies.stays_fit.makes_end (outside_with c.args.self.now.promises c.args.self.now.bodies) c.args.x c.requires.fits.outside_fits c.requires.linked)

pub returns-in-Ok-clause-begins : goal.returns-in-Ok-clause-begins
returns-in-Ok-clause-begins g c = body.begins_by g.B.Bodies.targets g.B.Bodies.awaits g.B.Bodies.begun g.B.Bodies.linked g.B.Bodies.knows g.B.Bodies.acts c.args.self.now (record { nodes = c.args.self.now.nodes; promises = c.start.new.promises; bodies = c.start.new.self; alloc = c.args.self.now.alloc }) c.args.x c.in-Ok.end.0 c.make_with.new.self c.in-Ok.ensures.id (c.in-Ok.ensures.ok ∙ ap (λ s. promise.make c.args.self.now.promises (reaction.BodyEnd s ∷ [])) c.from.ensures) refl c.start.result c.start.ensures.starts

pub returns-in-Ok-clause-nodes : goal.returns-in-Ok-clause-nodes
returns-in-Ok-clause-nodes g c = desk.on_ok c.start.result refl

pub returns-in-Ok-clause-modules : goal.returns-in-Ok-clause-modules
returns-in-Ok-clause-modules g c = (body.started_bodies g.B.Bodies.targets g.B.Bodies.awaits g.B.Bodies.begun g.B.Bodies.linked g.B.Bodies.knows g.B.Bodies.acts g.B.Bodies.leaves_modules (outside_with c.make_with.new.self c.args.self.now.bodies) (outside_with c.start.new.promises c.start.new.self) c.args.x c.in-Ok.end.0 c.start.result c.start.ensures.starts)

pub returns-in-Ok-clause-fits : goal.returns-in-Ok-clause-fits
returns-in-Ok-clause-fits g c = body.start_fits g.B.Bodies.targets g.B.Bodies.awaits g.B.Bodies.begun g.B.Bodies.linked g.B.Bodies.knows g.B.Bodies.acts g.B.Bodies.fits c.args.self.now (record { nodes = c.args.self.now.nodes; promises = c.start.new.promises; bodies = c.start.new.self; alloc = c.args.self.now.alloc }) c.requires.fits refl c.start.result (body.started_bodies g.B.Bodies.targets g.B.Bodies.awaits g.B.Bodies.begun g.B.Bodies.linked g.B.Bodies.knows g.B.Bodies.acts g.B.Bodies.leaves_modules (outside_with c.make_with.new.self c.args.self.now.bodies) (outside_with c.start.new.promises c.start.new.self) c.args.x c.in-Ok.end.0 c.start.result c.start.ensures.starts) c.start.ensures.fits
