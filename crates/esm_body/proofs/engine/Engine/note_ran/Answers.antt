use Rattle.std.proofs.Common.{refl}
use Rattle.esm_body.proofs.EndLemmas.{ran_stops}
use Rattle.esm_body.proofs.engine.Engine.note_ran.Goals as goal

pub returns-in-Ok : goal.returns-in-Ok
returns-in-Ok c = (c.in-Ok.ensures, refl)

pub returns-in-Err : goal.returns-in-Err
returns-in-Err c = ran_stops c.args.self.now c.note.new.self c.args.event c.args.url.now c.args.how c.in-Err.stop c.in-Err.ensures
