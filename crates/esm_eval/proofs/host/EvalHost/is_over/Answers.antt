use Rattle.std.proofs.Common.{sym, ◌∙◌}
use Rattle.esm_eval.specs.Inner.Orders.{has_one_of}
use Rattle.esm_eval.proofs.Inner.LateHost as late
use Rattle.esm_eval.proofs.host.EvalHost.is_over.Goals as goal

pub returns-then-is_done : goal.returns-then-is_done
returns-then-is_done g c = late.over_done g.B.Bodies.targets g.B.Bodies.awaits g.B.Bodies.begun g.B.Bodies.linked g.B.Bodies.knows c.args.self.now (has_one_of c.args.self.now.nodes.stamps c.args.known.now.keys) c.args.y (sym c.is_done.ensures ∙ c.if-is_done.true)

pub returns-then-awaits : goal.returns-then-awaits
returns-then-awaits g c = late.over_waits g.B.Bodies.targets g.B.Bodies.awaits g.B.Bodies.begun g.B.Bodies.linked g.B.Bodies.knows c.args.self.now (has_one_of c.args.self.now.nodes.stamps c.args.known.now.keys) c.args.y (sym c.is_done.ensures ∙ c.if-is_done.false) (sym c.awaits.ensures ∙ c.if-awaits.true)

pub returns : goal.returns
returns g c = late.over_joins g.B.Bodies.targets g.B.Bodies.awaits g.B.Bodies.begun g.B.Bodies.linked g.B.Bodies.knows c.args.self.now (has_one_of c.args.self.now.nodes.stamps c.args.known.now.keys) c.args.y c.has_gathered.result (sym c.is_done.ensures ∙ c.if-is_done.false) (sym c.awaits.ensures ∙ c.if-awaits.false) c.has_gathered.ensures
