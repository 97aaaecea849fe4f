use Rattle.esm_eval.specs.Host.{Outside, outside_with}
use Rattle.esm_machine.specs.declared.host.BodyHost.{BodyHost}
use Rattle.esm_machine.proofs.HostCalls.{starts_err, starts_fit}
use Rattle.esm_machine.proofs.host.BodyHostBodies.start.Goals as goal

pub start-requires-clause-ready : goal.start-requires-clause-ready
start-requires-clause-ready c = c.requires.fits.ready

pub returns-in-Ok-clause-starts : goal.returns-in-Ok-clause-starts
returns-in-Ok-clause-starts c = c.in-Ok.ensures.tells

pub returns-in-Ok-clause-fits : goal.returns-in-Ok-clause-fits
returns-in-Ok-clause-fits c =
    let o : Outside BodyHost = outside_with c.args.promises.now c.args.self.now in
    let b : BodyHost = record { imports = c.start.new.imports; errors = c.start.new.errors; envs = c.start.new.envs; engine = c.start.new.self } in
    starts_fit o (outside_with c.start.new.promises b) c.args.m.0 c.args.done.0 c.scopes_stay.ensures c.requires.fits c.requires.linked c.in-Ok.ensures.tells c.in-Ok.ensures.ready c.in-Ok.ensures.scopes

pub returns-in-Err-clause-starts : goal.returns-in-Err-clause-starts
returns-in-Err-clause-starts c =
    let o : Outside BodyHost = outside_with c.args.promises.now c.args.self.now in
    let b : BodyHost = record { imports = c.start.new.imports; errors = c.start.new.errors; envs = c.start.new.envs; engine = c.start.new.self } in
    starts_err o (outside_with c.start.new.promises b) c.args.m.0 c.args.done.0 c.in-Err.stop c.eval_end.result c.eval_end.ensures c.in-Err.ensures.tells
