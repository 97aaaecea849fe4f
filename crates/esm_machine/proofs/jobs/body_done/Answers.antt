use Rattle.std.proofs.Common.{subst, sym}
use Rattle.std.specs.Prelude.{Ok, Err}
use Rattle.esm_promise.specs.Promises.{Fulfilled}
use Rattle.esm_promise.specs.Reactions.{BodyEnd}
use Rattle.esm_machine.specs.Inner.Leads.{DoesJob}
use Rattle.esm_machine.proofs.BodyEnds.{body_ends, body_fulfilled, with_host}
use Rattle.esm_machine.proofs.EntryJobs.{job_ready}
use Rattle.esm_machine.proofs.HostOrder.{fulfilled_in_order}
use Rattle.esm_machine.proofs.ReadyHost.{ended_is_linked, host_fits}
use Rattle.esm_machine.proofs.jobs.body_done.Goals as goal

pub fulfilled-requires : goal.fulfilled-requires
fulfilled-requires c = record {
  linked = ended_is_linked c.args.parts.now c.args.m.0 (Fulfilled c.requires.may.0) c.requires.may.1;
  between = c.requires.may.1.order.between;
  fits = host_fits c.args.parts.now (job_ready c.args.parts.now (BodyEnd c.args.m.0) (Fulfilled c.requires.may.0) c.requires.may.1);
}

pub returns-in-Ok-clause-job : goal.returns-in-Ok-clause-job
returns-in-Ok-clause-job c v =
    body_fulfilled c.args.parts.now (job_ready c.args.parts.now (BodyEnd c.args.m.0) (Fulfilled c.requires.may.0) c.requires.may.1) c.fulfilled.new.desk c.args.m.0 v c.in-Ok.ensures.fulfills

pub returns-in-Ok-clause-order : goal.returns-in-Ok-clause-order
returns-in-Ok-clause-order c =
    fulfilled_in_order c.args.parts.now c.fulfilled.new.desk c.requires.may.1.order c.in-Ok.ensures.size c.in-Ok.ensures.between c.in-Ok.ensures.fits c.args.m.0 (Ok tt) c.in-Ok.ensures.fulfills

pub returns-in-Err-clause-job : goal.returns-in-Err-clause-job
returns-in-Err-clause-job c v =
    subst (λ e. DoesJob c.args.parts.now (BodyEnd c.args.m.0) (Fulfilled v) (Err e) (with_host c.args.parts.now c.fulfilled.new.desk)) (sym c.turn_end.ensures)
    (body_ends c.args.parts.now (job_ready c.args.parts.now (BodyEnd c.args.m.0) (Fulfilled c.requires.may.0) c.requires.may.1) c.fulfilled.new.desk c.args.m.0 v c.in-Err.end c.in-Err.ensures.fulfills)
