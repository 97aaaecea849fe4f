use Rattle.std.proofs.Common.{ap, sym, subst}
use Rattle.esm_values.specs.Code.{value_of}
use Rattle.esm_eval.specs.Host.{HostFits}
use Rattle.esm_eval.proofs.Inner.BodySteps as body
use Rattle.esm_eval.proofs.desk.EvalHostDesk.reject.Goals as goal

pub returns-clause-world : goal.returns-clause-world
returns-clause-world g c = ap (λ ps. record c.args.self.now { promises = ps }) c.settle.ensures

pub returns-clause-fits : goal.returns-clause-fits
returns-clause-fits g c = subst (λ ps. HostFits g.B.Bodies.fits g.B.Bodies.linked g.B.Bodies.knows (record c.args.self.now { promises = ps })) (sym c.settle.ensures) (body.fits_reject g.B.Bodies.targets g.B.Bodies.awaits g.B.Bodies.begun g.B.Bodies.linked g.B.Bodies.knows g.B.Bodies.acts g.B.Bodies.fits g.B.Bodies.stays_fit c.args.self.now c.args.p.0 (value_of c.args.v) c.requires.fits c.requires.known)
