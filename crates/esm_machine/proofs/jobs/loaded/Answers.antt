use Rattle.std.proofs.Common.{subst, sym}
use Rattle.std.specs.Prelude.{Ok}
use Rattle.esm_values.specs.Code.{value_of}
use Rattle.esm_promise.specs.Code.{settled_of}
use Rattle.esm_promise.specs.Promises.{Rejected}
use Rattle.esm_promise.specs.Reactions.{Loaded}
use Rattle.esm_machine.specs.Inner.Leads.{DoesJob}
use Rattle.esm_machine.specs.Inner.Parts.{MayDo}
use Rattle.esm_machine.proofs.LoadJobs.{load_refused, load_refused_in_order, refused_has_promise}
use Rattle.esm_machine.proofs.jobs.loaded.Goals as goal

pub settle_import-requires : goal.settle_import-requires
settle_import-requires c =
    let may : MayDo c.args.parts.now (Loaded c.args.load) (Rejected (value_of c.in-Rejected.value)) = subst (λ h. MayDo c.args.parts.now (Loaded c.args.load) (settled_of h)) c.in-Rejected.is c.requires.may in
    refused_has_promise c.args.parts.now c.args.load (value_of c.in-Rejected.value) may

pub returns-in-Rejected-clause-job : goal.returns-in-Rejected-clause-job
returns-in-Rejected-clause-job c =
    let may : MayDo c.args.parts.now (Loaded c.args.load) (Rejected (value_of c.in-Rejected.value)) = subst (λ h. MayDo c.args.parts.now (Loaded c.args.load) (settled_of h)) c.in-Rejected.is c.requires.may in
    subst (λ h. DoesJob c.args.parts.now (Loaded c.args.load) (settled_of h) (Ok tt) c.settle_import.new.parts) (sym c.in-Rejected.is)
    (load_refused c.args.parts.now c.settle_import.new.parts c.args.load (value_of c.in-Rejected.value) may c.settle_import.ensures)

pub returns-in-Rejected-clause-order : goal.returns-in-Rejected-clause-order
returns-in-Rejected-clause-order c =
    let may : MayDo c.args.parts.now (Loaded c.args.load) (Rejected (value_of c.in-Rejected.value)) = subst (λ h. MayDo c.args.parts.now (Loaded c.args.load) (settled_of h)) c.in-Rejected.is c.requires.may in
    load_refused_in_order c.args.parts.now c.settle_import.new.parts c.args.load (value_of c.in-Rejected.value) may c.settle_import.ensures

pub begin_load-requires : goal.begin_load-requires
begin_load-requires c = record { may = (value_of c.in-Fulfilled._value, subst (λ h. MayDo c.args.parts.now (Loaded c.args.load) (settled_of h)) c.in-Fulfilled.is c.requires.may) }

pub returns-in-Fulfilled-clause-job : goal.returns-in-Fulfilled-clause-job
returns-in-Fulfilled-clause-job c =
    subst (λ h. DoesJob c.args.parts.now (Loaded c.args.load) (settled_of h) c.begin_load.result c.begin_load.new.parts) (sym c.in-Fulfilled.is)
    (c.begin_load.ensures.job (value_of c.in-Fulfilled._value))
