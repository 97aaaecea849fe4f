use Rattle.std.proofs.Common.{ap}
use Rattle.std.specs.Option.{option_map}
use Rattle.esm_eval.proofs.Inner.LateHost as late
use Rattle.esm_eval.proofs.host.EvalHost.fulfill_kept.Goals as goal

pub returns-in-Some : goal.returns-in-Some
returns-in-Some g c = late.fulfills_one g.B.Bodies.targets g.B.Bodies.awaits g.B.Bodies.begun g.B.Bodies.linked g.B.Bodies.knows c.args.self.now c.in-Some.p.0 (option_map (λ p. p.0) c.args.promise) c.settle.new.self c.settle.ensures (ap (option_map (λ p. p.0)) c.in-Some.is)

pub returns-in-None : goal.returns-in-None
returns-in-None g c = late.fulfills_none g.B.Bodies.targets g.B.Bodies.awaits g.B.Bodies.begun g.B.Bodies.linked g.B.Bodies.knows c.args.self.now (option_map (λ p. p.0) c.args.promise) (ap (option_map (λ p. p.0)) c.in-None.is)
