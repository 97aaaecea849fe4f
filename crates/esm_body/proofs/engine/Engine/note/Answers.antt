use Rattle.esm_body.proofs.NotedLines.{noted, note_stops}
use Rattle.esm_body.proofs.engine.Engine.note.Goals as goal

pub returns-in-Ok-push : goal.returns-in-Ok-push
returns-in-Ok-push c = noted c.args.self.now c.trace_event.new.self c.args.event c.args.url.now c.push.new.self c.in-Ok.ensures c.in-Ok-push.ensures

pub returns-in-Err : goal.returns-in-Err
returns-in-Err c = note_stops c.args.self.now c.trace_event.new.self c.args.event c.args.url.now c.in-Err.stop c.in-Err.ensures
