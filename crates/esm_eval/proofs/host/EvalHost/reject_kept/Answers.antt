use Rattle.std.proofs.Common.{ap}
use Rattle.std.specs.Option.{option_map}
use Rattle.esm_values.specs.Code.{value_of}
use Rattle.esm_eval.proofs.Inner.LateHost as late
use Rattle.esm_eval.proofs.host.EvalHost.reject_kept.Goals as goal

pub returns-in_ok-told-in-Some-clause-world : goal.returns-in_ok-told-in-Some-clause-world
returns-in_ok-told-in-Some-clause-world g c = late.rejects_one g.B.Bodies.targets g.B.Bodies.awaits g.B.Bodies.begun g.B.Bodies.linked g.B.Bodies.knows c.args.self.now c.in-Some.p.0 (option_map (λ p. p.0) c.args.promise) _ (value_of c.args.v.now) c.settle.new.self c.settle.ensures (ap value_of c.in_ok-told-in-Some.ensures) (ap (option_map (λ p. p.0)) c.in-Some.is)

pub returns-in-None-clause-world : goal.returns-in-None-clause-world
returns-in-None-clause-world g c = late.rejects_none g.B.Bodies.targets g.B.Bodies.awaits g.B.Bodies.begun g.B.Bodies.linked g.B.Bodies.knows c.args.self.now (option_map (λ p. p.0) c.args.promise) (value_of c.args.v.now) (ap (option_map (λ p. p.0)) c.in-None.is)
