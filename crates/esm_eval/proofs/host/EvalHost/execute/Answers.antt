use Rattle.std.proofs.Common.{refl}
use Rattle.esm_eval.specs.Host.{outside_with}
use Rattle.esm_eval.proofs.Inner.BodySteps as body
use Rattle.esm_eval.proofs.Inner.DeskSteps as desk
use Rattle.esm_eval.proofs.host.EvalHost.execute.Goals as goal

pub run-requires-clause-fits : goal.run-requires-clause-fits
run-requires-clause-fits g c = c.requires.fits.outside_fits

pub returns-clause-runs : goal.returns-clause-runs
returns-clause-runs g c = body.runs_by g.B.Bodies.targets g.B.Bodies.awaits g.B.Bodies.begun g.B.Bodies.linked g.B.Bodies.knows g.B.Bodies.acts c.args.self.now (record { nodes = c.args.self.now.nodes; promises = c.run.new.promises; bodies = c.run.new.self; alloc = c.args.self.now.alloc }) c.args.x refl c.run.result c.run.ensures.runs

pub returns-clause-nodes : goal.returns-clause-nodes
returns-clause-nodes g c = desk.on_ok c.run.result refl

pub returns-clause-modules : goal.returns-clause-modules
returns-clause-modules g c = (body.ran_bodies g.B.Bodies.targets g.B.Bodies.awaits g.B.Bodies.begun g.B.Bodies.linked g.B.Bodies.knows g.B.Bodies.acts g.B.Bodies.leaves_modules (outside_with c.args.self.now.promises c.args.self.now.bodies) (outside_with c.run.new.promises c.run.new.self) c.args.x c.run.result c.run.ensures.runs)

pub returns-clause-fits : goal.returns-clause-fits
returns-clause-fits g c = body.run_fits g.B.Bodies.targets g.B.Bodies.awaits g.B.Bodies.begun g.B.Bodies.linked g.B.Bodies.knows g.B.Bodies.acts g.B.Bodies.fits c.args.self.now (record { nodes = c.args.self.now.nodes; promises = c.run.new.promises; bodies = c.run.new.self; alloc = c.args.self.now.alloc }) c.requires.fits refl c.run.result (body.ran_bodies g.B.Bodies.targets g.B.Bodies.awaits g.B.Bodies.begun g.B.Bodies.linked g.B.Bodies.knows g.B.Bodies.acts g.B.Bodies.leaves_modules (outside_with c.args.self.now.promises c.args.self.now.bodies) (outside_with c.run.new.promises c.run.new.self) c.args.x c.run.result c.run.ensures.runs) c.run.ensures.fits
