use Rattle.esm_eval.specs.Host.{Outside, outside_with}
use Rattle.esm_machine.specs.declared.host.BodyHost.{BodyHost}
use Rattle.esm_machine.proofs.HostCalls.{runs_err, runs_leave}
use Rattle.esm_machine.proofs.host.BodyHostBodies.run.Goals as goal

pub run-requires-clause-ready : goal.run-requires-clause-ready
run-requires-clause-ready c = c.requires.fits.ready

pub returns-in-Ok-clause-runs : goal.returns-in-Ok-clause-runs
returns-in-Ok-clause-runs c = c.in-Ok.ensures.tells

pub returns-in-Ok-clause-fits : goal.returns-in-Ok-clause-fits
returns-in-Ok-clause-fits c =
    let o : Outside BodyHost = outside_with c.args.promises.now c.args.self.now in
    let b : BodyHost = record { imports = c.run.new.imports; errors = c.run.new.errors; envs = c.run.new.envs; engine = c.run.new.self } in
    runs_leave o (outside_with c.run.new.promises b) c.args.m.0 c.scopes_stay.ensures c.in-Ok.ran c.requires.fits c.requires.linked c.in-Ok.ensures.tells c.in-Ok.ensures.ready c.in-Ok.ensures.knows c.in-Ok.ensures.scopes

pub returns-in-Err-clause-runs : goal.returns-in-Err-clause-runs
returns-in-Err-clause-runs c =
    let o : Outside BodyHost = outside_with c.args.promises.now c.args.self.now in
    let b : BodyHost = record { imports = c.run.new.imports; errors = c.run.new.errors; envs = c.run.new.envs; engine = c.run.new.self } in
    runs_err o (outside_with c.run.new.promises b) c.args.m.0 c.in-Err.stop c.eval_end.result c.eval_end.ensures c.in-Err.ensures.tells
