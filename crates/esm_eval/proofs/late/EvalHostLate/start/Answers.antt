use Rattle.esm_eval.proofs.Inner.BodySteps as body
use Rattle.esm_eval.proofs.late.EvalHostLate.start.Goals as goal

pub returns-clause-stays : goal.returns-clause-stays
returns-clause-stays g c = body.stays_ok g.B.Bodies.targets g.B.Bodies.awaits g.B.Bodies.begun g.B.Bodies.linked g.B.Bodies.knows g.B.Bodies.acts g.B.Bodies.fits c.args.self.now c.begin.new.self c.begin.result c.begin.ensures.modules
