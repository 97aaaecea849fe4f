use Rattle.esm_promise.specs.Promises.{Fulfilled}
use Rattle.esm_promise.specs.Reactions.{EntryLoaded}
use Rattle.esm_machine.proofs.EntryJobs.{entry_complete, entry_goes_on, entry_in_order, entry_stops, job_ready}
use Rattle.esm_machine.proofs.jobs.begin_entry.Goals as goal

pub link_and_evaluate-requires-clause-ready : goal.link_and_evaluate-requires-clause-ready
link_and_evaluate-requires-clause-ready c = job_ready c.args.parts.now EntryLoaded (Fulfilled c.requires.may.0) c.requires.may.1

pub link_and_evaluate-requires-clause-complete : goal.link_and_evaluate-requires-clause-complete
link_and_evaluate-requires-clause-complete c = entry_complete c.args.parts.now c.requires.may.0 c.requires.may.1

pub returns-in-Ok-clause-job : goal.returns-in-Ok-clause-job
returns-in-Ok-clause-job c v =
    entry_goes_on c.args.parts.now c.link_and_evaluate.new.parts v c.take_entry.new.parts c.in-Ok.linked c.take_entry.result c.in-Ok.ensures.comes c.take_entry.ensures

pub returns-in-Ok-clause-order : goal.returns-in-Ok-clause-order
returns-in-Ok-clause-order c =
    entry_in_order c.link_and_evaluate.new.parts c.take_entry.new.parts c.in-Ok.linked c.take_entry.result c.in-Ok.ensures.order c.take_entry.ensures

pub returns-in-Err-clause-job : goal.returns-in-Err-clause-job
returns-in-Err-clause-job c v = entry_stops c.args.parts.now c.link_and_evaluate.new.parts v c.in-Err.end c.in-Err.ensures.comes
