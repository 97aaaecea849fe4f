use Rattle.std.proofs.Common.{◌≡◌, true, false, sym, subst, ◌∙◌}
use Rattle.esm_eval.specs.Inner.Orders.{has_one_of}
use Rattle.esm_eval.specs.Inner.Ready.{no_error}
use Rattle.esm_eval.specs.Table.{node_at}
use Rattle.esm_eval.proofs.Inner.LateHost as late
use Rattle.esm_eval.proofs.host.EvalHost.is_ready.Goals as goal

pub returns-then-has_begun : goal.returns-then-has_begun
returns-then-has_begun g c = late.has_begun g.B.Bodies.targets g.B.Bodies.awaits g.B.Bodies.begun g.B.Bodies.linked g.B.Bodies.knows c.args.self.now (has_one_of c.args.self.now.nodes.stamps c.args.known.now.keys) c.args.x (sym c.has_begun.ensures ∙ c.if-has_begun.true)

pub returns-then-has_error : goal.returns-then-has_error
returns-then-has_error g c = late.has_failed g.B.Bodies.targets g.B.Bodies.awaits g.B.Bodies.begun g.B.Bodies.linked g.B.Bodies.knows c.args.self.now (has_one_of c.args.self.now.nodes.stamps c.args.known.now.keys) c.args.x (subst (λ r. no_error (node_at c.args.self.now.nodes r).error ≡ false) c.root_of.ensures (late.failed (no_error (node_at c.args.self.now.nodes c.root_of.result).error) c.has_error.result c.has_error.ensures c.if-has_error.true))

pub returns-else-has_error : goal.returns-else-has_error
returns-else-has_error g c = late.by_waits g.B.Bodies.targets g.B.Bodies.awaits g.B.Bodies.begun g.B.Bodies.linked g.B.Bodies.knows c.args.self.now (has_one_of c.args.self.now.nodes.stamps c.args.known.now.keys) c.args.x c.are_over.result c.requires.stamped (sym c.is_async.ensures ∙ c.if-is_async.true) (sym c.has_begun.ensures ∙ c.if-has_begun.false) (subst (λ r. no_error (node_at c.args.self.now.nodes r).error ≡ true) c.root_of.ensures (late.unfailed (no_error (node_at c.args.self.now.nodes c.root_of.result).error) c.has_error.result c.has_error.ensures c.if-has_error.false)) c.are_over.ensures

pub returns-else-is_async : goal.returns-else-is_async
returns-else-is_async g c = late.not_async g.B.Bodies.targets g.B.Bodies.awaits g.B.Bodies.begun g.B.Bodies.linked g.B.Bodies.knows c.args.self.now (has_one_of c.args.self.now.nodes.stamps c.args.known.now.keys) c.args.x (sym c.is_async.ensures ∙ c.if-is_async.false)
