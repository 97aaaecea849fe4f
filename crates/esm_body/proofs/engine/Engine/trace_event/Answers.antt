use Rattle.std.proofs.Common.{◌∙◌}
use Rattle.esm_body.proofs.NotedLines.{traced, untraced}
use Rattle.esm_body.proofs.engine.Engine.trace_event.Goals as goal

pub returns-in-Ok : goal.returns-in-Ok
returns-in-Ok c = traced c.args.self.now c.args.event c.args.url.now _ c.line.result c.line.new.self c.if-self.true (c.as_str.ensures ∙ c.in-Ok.ensures) c.line.ensures

pub returns-else-self : goal.returns-else-self
returns-else-self c = untraced c.args.self.now c.args.event c.args.url.now c.if-self.false
