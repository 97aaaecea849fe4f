use Rattle.std.proofs.Common.{subst, sym}
use Rattle.std.specs.Prelude.{Ok}
use Rattle.esm_values.specs.Code.{value_of}
use Rattle.esm_promise.specs.Code.{settled_of}
use Rattle.esm_promise.specs.Promises.{Rejected}
use Rattle.esm_promise.specs.Reactions.{BodyEnd}
use Rattle.esm_machine.specs.Inner.Leads.{DoesJob}
use Rattle.esm_machine.specs.Inner.Parts.{MayDo}
use Rattle.esm_machine.proofs.BodyEnds.{body_rejected, with_host}
use Rattle.esm_machine.proofs.EntryJobs.{job_ready}
use Rattle.esm_machine.proofs.GivenById.{knows_thrown}
use Rattle.esm_machine.proofs.HostOrder.{rejected_in_order}
use Rattle.esm_machine.proofs.ReadyHost.{ended_is_linked, host_fits}
use Rattle.esm_machine.proofs.jobs.body_ended.Goals as goal

pub body_done-requires : goal.body_done-requires
body_done-requires c = record { may = (value_of c.in-Fulfilled._value, subst (λ h. MayDo c.args.parts.now (BodyEnd c.args.m.0) (settled_of h)) c.in-Fulfilled.is c.requires.may) }

pub returns-in-Fulfilled-clause-job : goal.returns-in-Fulfilled-clause-job
returns-in-Fulfilled-clause-job c =
    subst (λ h. DoesJob c.args.parts.now (BodyEnd c.args.m.0) (settled_of h) c.body_done.result c.body_done.new.parts) (sym c.in-Fulfilled.is)
    (c.body_done.ensures.job (value_of c.in-Fulfilled._value))

pub rejected-requires : goal.rejected-requires
rejected-requires c =
    let may : MayDo c.args.parts.now (BodyEnd c.args.m.0) (Rejected (value_of c.in-Rejected.value)) = subst (λ h. MayDo c.args.parts.now (BodyEnd c.args.m.0) (settled_of h)) c.in-Rejected.is c.requires.may in
    record {
      linked = ended_is_linked c.args.parts.now c.args.m.0 (settled_of c.args.how) c.requires.may;
      between = c.requires.may.order.between;
      known = knows_thrown c.args.parts.now c.args.m.0 (value_of c.in-Rejected.value) may;
      fits = host_fits c.args.parts.now (job_ready c.args.parts.now (BodyEnd c.args.m.0) (settled_of c.args.how) c.requires.may);
    }

pub returns-in-Ok-clause-job : goal.returns-in-Ok-clause-job
returns-in-Ok-clause-job c =
    subst (λ h. DoesJob c.args.parts.now (BodyEnd c.args.m.0) (settled_of h) (Ok tt) (with_host c.args.parts.now c.rejected.new.desk)) (sym c.in-Rejected.is)
    (body_rejected c.args.parts.now (job_ready c.args.parts.now (BodyEnd c.args.m.0) (settled_of c.args.how) c.requires.may) c.rejected.new.desk c.args.m.0 (value_of c.in-Rejected.value) c.in-Ok.ensures.rejects)

pub returns-in-Ok-clause-order : goal.returns-in-Ok-clause-order
returns-in-Ok-clause-order c =
    rejected_in_order c.args.parts.now c.rejected.new.desk c.requires.may.order c.in-Ok.ensures.size c.in-Ok.ensures.between c.in-Ok.ensures.fits c.args.m.0 (value_of c.in-Rejected.value) c.in-Ok.ensures.rejects
