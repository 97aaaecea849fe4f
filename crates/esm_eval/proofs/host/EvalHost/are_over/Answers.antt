use Rattle.std.proofs.Common.{◌<◌, ◌≤◌, subst}
use Rattle.esm_eval.specs.Evaluation.{waits}
use Rattle.esm_eval.specs.Host.{evaluation}
use Rattle.esm_eval.specs.Inner.Orders.{has_one_of}
use Rattle.esm_eval.specs.Inner.Ready.{over}
use Rattle.esm_eval.proofs.Inner.LateHost as late
use Rattle.esm_eval.proofs.host.EvalHost.are_over.Goals as goal

pub loop-k-init : goal.loop-k-init
loop-k-init g c = late.over_passed g.B.Bodies.targets g.B.Bodies.awaits g.B.Bodies.begun g.B.Bodies.linked g.B.Bodies.knows c.args.self.now (has_one_of c.args.self.now.nodes.stamps c.args.known.now.keys) (waits (evaluation g.B.Bodies.targets g.B.Bodies.awaits g.B.Bodies.begun) c.args.self.now c.args.x) c.passed-from.result c.passed-from.ensures

pub wait-y-requires-clause-has : goal.wait-y-requires-clause-has
wait-y-requires-clause-has g c = c.requires.fits.have c.args.x c.requires.linked

pub wait-y-requires-clause-within : goal.wait-y-requires-clause-within
wait-y-requires-clause-within g c = subst (λ n. c.loop-k.k < n) c.wait_count-k-end.ensures c.loop-k-test.true

pub is_over-requires-clause-linked : goal.is_over-requires-clause-linked
is_over-requires-clause-linked g c = late.wait_linked g.B.Bodies.targets g.B.Bodies.awaits g.B.Bodies.begun g.B.Bodies.linked g.B.Bodies.knows g.B.Bodies.fits c.args.self.now c.requires.fits c.args.x c.loop-k.k c.wait-y.result c.wait-y.ensures

pub loop-k-preserved : goal.loop-k-preserved
loop-k-preserved g c = late.over_next g.B.Bodies.targets g.B.Bodies.awaits g.B.Bodies.begun g.B.Bodies.linked g.B.Bodies.knows c.args.self.now (has_one_of c.args.self.now.nodes.stamps c.args.known.now.keys) (waits (evaluation g.B.Bodies.targets g.B.Bodies.awaits g.B.Bodies.begun) c.args.self.now c.args.x) c.loop-k.k c.wait-y.result c.is_over.result (over (evaluation g.B.Bodies.targets g.B.Bodies.awaits g.B.Bodies.begun) c.args.self.now (has_one_of c.args.self.now.nodes.stamps c.args.known.now.keys) (waits (evaluation g.B.Bodies.targets g.B.Bodies.awaits g.B.Bodies.begun) c.args.self.now c.args.x)) c.wait-y.ensures c.is_over.ensures c.if-is_over.true c.loop-k.invariant

pub returns-in-loop-k : goal.returns-in-loop-k
returns-in-loop-k g c = late.over_fails g.B.Bodies.targets g.B.Bodies.awaits g.B.Bodies.begun g.B.Bodies.linked g.B.Bodies.knows c.args.self.now (has_one_of c.args.self.now.nodes.stamps c.args.known.now.keys) (waits (evaluation g.B.Bodies.targets g.B.Bodies.awaits g.B.Bodies.begun) c.args.self.now c.args.x) c.loop-k.k c.wait-y.result c.is_over.result (over (evaluation g.B.Bodies.targets g.B.Bodies.awaits g.B.Bodies.begun) c.args.self.now (has_one_of c.args.self.now.nodes.stamps c.args.known.now.keys) (waits (evaluation g.B.Bodies.targets g.B.Bodies.awaits g.B.Bodies.begun) c.args.self.now c.args.x)) c.wait-y.ensures c.is_over.ensures c.if-is_over.false c.loop-k.invariant

pub returns : goal.returns
returns g c = late.over_ends g.B.Bodies.targets g.B.Bodies.awaits g.B.Bodies.begun g.B.Bodies.linked g.B.Bodies.knows c.args.self.now (has_one_of c.args.self.now.nodes.stamps c.args.known.now.keys) (waits (evaluation g.B.Bodies.targets g.B.Bodies.awaits g.B.Bodies.begun) c.args.self.now c.args.x) c.loop-k.k (over (evaluation g.B.Bodies.targets g.B.Bodies.awaits g.B.Bodies.begun) c.args.self.now (has_one_of c.args.self.now.nodes.stamps c.args.known.now.keys) (waits (evaluation g.B.Bodies.targets g.B.Bodies.awaits g.B.Bodies.begun) c.args.self.now c.args.x)) (subst (λ n. n ≤ c.loop-k.k) c.wait_count-k-end.ensures c.loop-k-test.false) c.loop-k.invariant
