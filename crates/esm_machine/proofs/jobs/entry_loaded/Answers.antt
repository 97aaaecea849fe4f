use Rattle.std.proofs.Common.{subst, sym}
use Rattle.std.specs.Prelude.{Ok}
use Rattle.esm_values.specs.Code.{value_of}
use Rattle.esm_promise.specs.Code.{settled_of}
use Rattle.esm_promise.specs.Reactions.{EntryLoaded}
use Rattle.esm_machine.specs.Inner.Leads.{DoesJob}
use Rattle.esm_machine.specs.Inner.Parts.{MayDo}
use Rattle.esm_machine.specs.declared.parts.EntryState.TheVariants as states
use Rattle.esm_machine.proofs.EntryJobs.{entry_refused}
use Rattle.esm_machine.proofs.InOrder.{with_entry_in_order}
use Rattle.esm_machine.proofs.jobs.entry_loaded.Goals as goal

pub returns-in-Rejected-clause-job : goal.returns-in-Rejected-clause-job
returns-in-Rejected-clause-job c =
    subst (λ h. DoesJob c.args.parts.now EntryLoaded (settled_of h) (Ok tt) (record c.args.parts.now { entry = states.Failed c.in-Rejected.value })) (sym c.in-Rejected.is)
    (entry_refused c.args.parts.now c.in-Rejected.value)

pub returns-in-Rejected-clause-order : goal.returns-in-Rejected-clause-order
returns-in-Rejected-clause-order c = with_entry_in_order c.args.parts.now c.requires.may.order (states.Failed c.in-Rejected.value)

pub begin_entry-requires : goal.begin_entry-requires
begin_entry-requires c = record { may = (value_of c.in-Fulfilled._value, subst (λ h. MayDo c.args.parts.now EntryLoaded (settled_of h)) c.in-Fulfilled.is c.requires.may) }

pub returns-in-Fulfilled-clause-job : goal.returns-in-Fulfilled-clause-job
returns-in-Fulfilled-clause-job c =
    subst (λ h. DoesJob c.args.parts.now EntryLoaded (settled_of h) c.begin_entry.result c.begin_entry.new.parts) (sym c.in-Fulfilled.is)
    (c.begin_entry.ensures.job (value_of c.in-Fulfilled._value))
