use Rattle.std.proofs.Common.{get_or, ap}
use Rattle.std.proofs.lemmas.Option.{slice_get-get_or}
use Rattle.esm_values.specs.Code.{value_of}
use Rattle.esm_eval.proofs.Inner.HostSteps as steps
use Rattle.esm_eval.proofs.host.EvalHost.fail_all.Goals as goal

pub loop-i-init : goal.loop-i-init
loop-i-init g c = steps.failing_first g.B.Bodies.targets g.B.Bodies.awaits g.B.Bodies.begun g.B.Bodies.linked g.B.Bodies.knows g.B.Bodies.fits c.args.self.now c.args.opened.now (value_of c.args.v.now) c.requires.stack c.requires.fits c.requires.known

pub fail-requires : goal.fail-requires
fail-requires g c = steps.has_open g.B.Bodies.targets g.B.Bodies.awaits g.B.Bodies.begun g.B.Bodies.linked g.B.Bodies.knows g.B.Bodies.fits c.loop-i.self c.args.opened.now c.loop-i.i (get_or c.args.opened.now c.loop-i.i 0) c.loop-i.invariant.fit c.loop-i.invariant.stack (slice_get-get_or c.args.opened.now c.loop-i.i 0 c.loop-i-test.true)

pub loop-i-preserved : goal.loop-i-preserved
loop-i-preserved g c = steps.failing_step g.B.Bodies.targets g.B.Bodies.awaits g.B.Bodies.begun g.B.Bodies.linked g.B.Bodies.knows g.B.Bodies.fits c.args.self.now c.loop-i.self c.args.opened.now (value_of c.args.v.now) c.loop-i.i (get_or c.args.opened.now c.loop-i.i 0) _ _ c.loop-i.invariant (slice_get-get_or c.args.opened.now c.loop-i.i 0 c.loop-i-test.true) (ap value_of c.in_ok-error.ensures) c.fail.ensures

pub returns-clause-world : goal.returns-clause-world
returns-clause-world g c = steps.failing_all g.B.Bodies.targets g.B.Bodies.awaits g.B.Bodies.begun g.B.Bodies.linked g.B.Bodies.knows g.B.Bodies.fits c.args.self.now c.loop-i.self c.args.opened.now (value_of c.args.v.now) c.loop-i.i c.loop-i.invariant c.loop-i-test.false

pub returns-clause-size : goal.returns-clause-size
returns-clause-size g c = c.loop-i.invariant.long
