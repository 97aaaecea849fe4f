use Rattle.esm_eval.proofs.Inner.LateHost as late
use Rattle.esm_eval.proofs.late.EvalHostLate.waiter.Goals as goal

pub waiter-requires-clause-has : goal.waiter-requires-clause-has
waiter-requires-clause-has g c = c.requires.fits.have c.args.x c.requires.linked

pub waiter-requires-clause-within : goal.waiter-requires-clause-within
waiter-requires-clause-within g c = c.requires.within

pub returns-clause-linked : goal.returns-clause-linked
returns-clause-linked g c = late.waiter_linked g.B.Bodies.targets g.B.Bodies.awaits g.B.Bodies.begun g.B.Bodies.linked g.B.Bodies.knows g.B.Bodies.fits c.args.self.now c.requires.fits c.args.x c.args.i c.waiter.result c.waiter.ensures
