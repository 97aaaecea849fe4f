use Rattle.std.proofs.Common.{subst, sym}
use Rattle.std.specs.Prelude.{Ok}
use Rattle.esm_values.specs.Code.{value_of}
use Rattle.esm_values.specs.Value.{Namespace}
use Rattle.esm_promise.specs.Code.{settled_of}
use Rattle.esm_promise.specs.Promises.{Fulfilled, Rejected}
use Rattle.esm_promise.specs.Reactions.{Evaluated}
use Rattle.esm_machine.specs.Inner.Leads.{DoesJob}
use Rattle.esm_machine.specs.Inner.Parts.{MayDo}
use Rattle.esm_machine.proofs.LoadJobs.{evaluated_has_promise, load_evaluated, load_settled_in_order, load_threw}
use Rattle.esm_machine.proofs.jobs.evaluated.Goals as goal

pub settle_import-requires : goal.settle_import-requires
settle_import-requires c = evaluated_has_promise c.args.parts.now c.args.load (settled_of c.args.how) c.requires.may

pub returns-in-Rejected-clause-job : goal.returns-in-Rejected-clause-job
returns-in-Rejected-clause-job c =
    let may : MayDo c.args.parts.now (Evaluated c.args.load) (Rejected (value_of c.in-Rejected.value)) = subst (λ h. MayDo c.args.parts.now (Evaluated c.args.load) (settled_of h)) c.in-Rejected.is c.requires.may in
    subst (λ h. DoesJob c.args.parts.now (Evaluated c.args.load) (settled_of h) (Ok tt) c.settle_import.new.parts) (sym c.in-Rejected.is)
    (load_threw c.args.parts.now c.settle_import.new.parts c.args.load (value_of c.in-Rejected.value) may c.settle_import.ensures)

pub returns-in-Rejected-clause-order : goal.returns-in-Rejected-clause-order
returns-in-Rejected-clause-order c =
    load_settled_in_order c.args.parts.now c.settle_import.new.parts c.args.load (Rejected (value_of c.in-Rejected.value)) (settled_of c.args.how) c.requires.may c.settle_import.ensures

pub root_of_load-requires : goal.root_of_load-requires
root_of_load-requires c = record { whole = c.requires.may.order.whole }

pub settle_import-requires-in-Fulfilled : goal.settle_import-requires-in-Fulfilled
settle_import-requires-in-Fulfilled c = evaluated_has_promise c.args.parts.now c.args.load (settled_of c.args.how) c.requires.may

pub returns-in-Some-clause-job : goal.returns-in-Some-clause-job
returns-in-Some-clause-job c =
    let may : MayDo c.args.parts.now (Evaluated c.args.load) (Fulfilled (value_of c.in-Fulfilled._value)) = subst (λ h. MayDo c.args.parts.now (Evaluated c.args.load) (settled_of h)) c.in-Fulfilled.is c.requires.may in
    subst (λ h. DoesJob c.args.parts.now (Evaluated c.args.load) (settled_of h) (Ok tt) c.settle_import-in-Fulfilled.new.parts) (sym c.in-Fulfilled.is)
    (load_evaluated c.args.parts.now c.settle_import-in-Fulfilled.new.parts c.args.load (value_of c.in-Fulfilled._value) c.in-Some.root may c.in-Some.ensures.root c.settle_import-in-Fulfilled.ensures)

pub returns-in-Some-clause-order : goal.returns-in-Some-clause-order
returns-in-Some-clause-order c =
    load_settled_in_order c.args.parts.now c.settle_import-in-Fulfilled.new.parts c.args.load (Fulfilled (Namespace c.in-Some.root.0)) (settled_of c.args.how) c.requires.may c.settle_import-in-Fulfilled.ensures
