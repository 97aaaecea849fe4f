use Rattle.esm_promise.specs.Promises.{Fulfilled}
use Rattle.esm_promise.specs.Reactions.{Loaded}
use Rattle.esm_machine.proofs.EntryJobs.{job_ready}
use Rattle.esm_machine.proofs.LoadJobs.{load_complete, load_goes_on, load_in_order, load_may, load_stops}
use Rattle.esm_machine.proofs.jobs.begin_load.Goals as goal

pub link_and_evaluate-requires-clause-ready : goal.link_and_evaluate-requires-clause-ready
link_and_evaluate-requires-clause-ready c = job_ready c.args.parts.now (Loaded c.args.load) (Fulfilled c.requires.may.0) c.requires.may.1

pub link_and_evaluate-requires-clause-complete : goal.link_and_evaluate-requires-clause-complete
link_and_evaluate-requires-clause-complete c = load_complete c.args.parts.now c.args.load c.requires.may.0 c.requires.may.1

pub take_load-requires : goal.take_load-requires
take_load-requires c =
    load_may c.args.parts.now c.link_and_evaluate.new.parts c.args.load c.requires.may.0 c.requires.may.1 c.in-Ok.linked c.in-Ok.ensures.comes

pub returns-in-Ok-clause-job : goal.returns-in-Ok-clause-job
returns-in-Ok-clause-job c v =
    load_goes_on c.args.parts.now c.link_and_evaluate.new.parts c.args.load c.requires.may.0 c.requires.may.1 v c.take_load.new.parts c.in-Ok.linked c.take_load.result c.in-Ok.ensures.comes c.take_load.ensures

pub returns-in-Ok-clause-order : goal.returns-in-Ok-clause-order
returns-in-Ok-clause-order c =
    load_in_order c.args.parts.now c.link_and_evaluate.new.parts c.args.load c.requires.may.0 c.requires.may.1 c.take_load.new.parts c.in-Ok.linked c.take_load.result c.in-Ok.ensures.comes c.in-Ok.ensures.order c.take_load.ensures

pub returns-in-Err-clause-job : goal.returns-in-Err-clause-job
returns-in-Err-clause-job c v =
    load_stops c.args.parts.now c.link_and_evaluate.new.parts c.args.load c.requires.may.0 c.requires.may.1 v c.in-Err.end c.in-Err.ensures.comes
