use Rattle.esm_promise.specs.Code.{settled_of}
use Rattle.esm_body.proofs.NotedLines.{settle_stops}
use Rattle.esm_body.proofs.engine.Engine.settle_end.Goals as goal

pub returns-in-Ok : goal.returns-in-Ok
returns-in-Ok c = (c.in-Ok.ensures, c.settle.ensures)

pub returns-in-Err : goal.returns-in-Err
returns-in-Err c = settle_stops c.args.self.now c.note.new.self c.args.promises.now c.args.event c.args.url.now c.args.done.0 (settled_of c.args.how) c.in-Err.stop c.in-Err.ensures
