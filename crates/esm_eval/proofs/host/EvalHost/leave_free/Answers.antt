use Rattle.std.proofs.Common.{ap, sym, ◌∙◌}
use Rattle.esm_eval.specs.Host.{HostFits, calls, evaluation, outside_with}
use Rattle.esm_eval.proofs.Inner.HostSteps as steps
use Rattle.esm_eval.proofs.Inner.DeskSteps as desk
use Rattle.esm_eval.proofs.host.EvalHost.leave_free.Goals as goal

pub leave_async-requires-clause-awaits : goal.leave_async-requires-clause-awaits
leave_async-requires-clause-awaits g c = sym c.awaits.ensures ∙ c.if-awaits.true

pub execute-requires-clause-awaits : goal.execute-requires-clause-awaits
execute-requires-clause-awaits g c = (sym c.awaits.ensures ∙ c.if-awaits.false)

pub returns-in-Ok-clause-leaves : goal.returns-in-Ok-clause-leaves
returns-in-Ok-clause-leaves g c = c.in-Ok.ensures.leaves

pub returns-in-Ok-clause-fits : goal.returns-in-Ok-clause-fits
returns-in-Ok-clause-fits g c = c.in-Ok.ensures.fits

pub returns-in-Err-clause-leaves : goal.returns-in-Err-clause-leaves
returns-in-Err-clause-leaves g c = desk.cut_leaves g.B.Bodies.targets g.B.Bodies.awaits g.B.Bodies.begun g.B.Bodies.linked g.B.Bodies.knows (calls g.B.Bodies.acts) c.args.self.now c.leave_async.new.self c.args.x c.args.opened.now c.in-Err.end c.cut.result c.cut.ensures c.in-Err.ensures.leaves

pub returns-in-Err-clause-fits : goal.returns-in-Err-clause-fits
returns-in-Err-clause-fits g c = desk.cut_fits (Unit {0}) (HostFits g.B.Bodies.fits g.B.Bodies.linked g.B.Bodies.knows) (Rattle.esm_eval.specs.Host.knows_in g.B.Bodies.knows) c.leave_async.new.self c.in-Err.end c.cut.result c.cut.ensures

pub throw-requires-clause-stack : goal.throw-requires-clause-stack
throw-requires-clause-stack g c = (λ y h. ap (λ t. Rattle.esm_eval.specs.Nodes.was_entered (Rattle.esm_eval.specs.Table.node_at t y).phase) c.in-Ok-execute.ensures.nodes ∙ c.requires.stack y h)

pub returns-in-Normal-clause-leaves : goal.returns-in-Normal-clause-leaves
returns-in-Normal-clause-leaves g c = desk.left_normal g.B.Bodies.targets g.B.Bodies.awaits g.B.Bodies.begun g.B.Bodies.linked g.B.Bodies.knows (calls g.B.Bodies.acts) c.args.self.now c.args.x c.requires.free (sym c.awaits.ensures ∙ c.if-awaits.false) c.execute.new.self c.args.opened.now c.in-Ok-execute.ran c.in-Ok-execute.ensures.runs c.in-Normal.is (steps.keeps_like g.B.Bodies.targets g.B.Bodies.awaits g.B.Bodies.begun g.B.Bodies.linked g.B.Bodies.knows c.args.self.now c.execute.new.self (ap (λ t. t.nodes) c.in-Ok-execute.ensures.nodes) c.in-Ok-execute.ensures.modules)

pub returns-in-Thrown-clause-leaves : goal.returns-in-Thrown-clause-leaves
returns-in-Thrown-clause-leaves g c = desk.left_thrown g.B.Bodies.targets g.B.Bodies.awaits g.B.Bodies.begun g.B.Bodies.linked g.B.Bodies.knows (calls g.B.Bodies.acts) c.args.self.now c.args.x c.requires.free (sym c.awaits.ensures ∙ c.if-awaits.false) c.execute.new.self c.throw.new.self c.args.opened.now c.in-Ok-execute.ran c.in-Thrown.v c.in-Ok-execute.ensures.runs c.in-Thrown.is c.throw.result c.throw.ensures.throws

pub returns-in-Err-execute-clause-leaves : goal.returns-in-Err-execute-clause-leaves
returns-in-Err-execute-clause-leaves g c = desk.left_cut g.B.Bodies.targets g.B.Bodies.awaits g.B.Bodies.begun g.B.Bodies.linked g.B.Bodies.knows (calls g.B.Bodies.acts) c.args.self.now c.args.x c.requires.free (sym c.awaits.ensures ∙ c.if-awaits.false) c.execute.new.self c.args.opened.now c.in-Err-execute.end c.cut-in-Err-execute.result c.cut-in-Err-execute.ensures c.in-Err-execute.ensures.runs
