use Rattle.std.proofs.Common.{subst, sym}
use Rattle.std.specs.Prelude.{Err}
use Rattle.esm_promise.specs.Code.{settled_of}
use Rattle.esm_promise.specs.Reactions.{Await}
use Rattle.esm_machine.specs.Inner.Leads.{DoesJob}
use Rattle.esm_machine.specs.declared.host.BodyHost.{BodyHost}
use Rattle.esm_machine.proofs.EntryJobs.{job_ready}
use Rattle.esm_machine.proofs.GivenById.{knows_given, stands_by_id}
use Rattle.esm_machine.proofs.ReadyHost.{awaiting_is_linked, engine_ready}
use Rattle.esm_machine.proofs.Resuming.{resumed_in_order, resumed_ok, resumed_stops, with_bodies}
use Rattle.esm_machine.proofs.jobs.go_on.Goals as goal

pub resume-requires : goal.resume-requires
resume-requires c = record {
  ready = engine_ready c.args.parts.now (job_ready c.args.parts.now (Await c.args.m.0) (settled_of c.args.how) c.requires.may);
  home = awaiting_is_linked c.args.parts.now c.args.m.0 (settled_of c.args.how) c.requires.may;
  stands = stands_by_id c.args.parts.now c.args.m.0 (settled_of c.args.how) c.requires.may;
  knows = knows_given c.args.parts.now c.args.m.0 (settled_of c.args.how) c.requires.may;
}

pub returns-in-Ok-clause-job : goal.returns-in-Ok-clause-job
returns-in-Ok-clause-job c =
    let b : BodyHost = record { imports = c.resume.new.imports; errors = c.resume.new.errors; envs = c.resume.new.envs; engine = c.resume.new.self } in
    resumed_ok c.args.parts.now c.resume.new.promises b c.args.m.0 (settled_of c.args.how) c.in-Ok.ensures.tells

pub returns-in-Ok-clause-order : goal.returns-in-Ok-clause-order
returns-in-Ok-clause-order c =
    let b : BodyHost = record { imports = c.resume.new.imports; errors = c.resume.new.errors; envs = c.resume.new.envs; engine = c.resume.new.self } in
    resumed_in_order c.args.parts.now c.resume.new.promises b c.args.m.0 (settled_of c.args.how) (job_ready c.args.parts.now (Await c.args.m.0) (settled_of c.args.how) c.requires.may)
    (awaiting_is_linked c.args.parts.now c.args.m.0 (settled_of c.args.how) c.requires.may) c.in-Ok.ensures.tells c.in-Ok.ensures.ready c.scopes_stay.ensures c.in-Ok.ensures.scopes

pub returns-in-Err-clause-job : goal.returns-in-Err-clause-job
returns-in-Err-clause-job c =
    let b : BodyHost = record { imports = c.resume.new.imports; errors = c.resume.new.errors; envs = c.resume.new.envs; engine = c.resume.new.self } in
    subst (λ e. DoesJob c.args.parts.now (Await c.args.m.0) (settled_of c.args.how) (Err e) (with_bodies c.args.parts.now c.resume.new.promises b)) (sym c.stop_end.ensures)
    (resumed_stops c.args.parts.now c.resume.new.promises b c.args.m.0 (settled_of c.args.how) c.in-Err.stop c.in-Err.ensures.tells)
