use Rattle.esm_machine.proofs.RootJobs.{given_fault, no_fault, no_fault_stops}
use Rattle.esm_machine.proofs.linking.evaluate_unless.Goals as goal

pub returns-in-Some-clause-comes : goal.returns-in-Some-clause-comes
returns-in-Some-clause-comes c = given_fault c.args.parts.now c.args.root.0 c.args.error c.in-Some.value c.in-Some.is

pub returns-in-Some-clause-order : goal.returns-in-Some-clause-order
returns-in-Some-clause-order c = c.requires.ready.order

pub evaluate_root-requires-clause-linked : goal.evaluate_root-requires-clause-linked
evaluate_root-requires-clause-linked c = c.requires.linked c.in-None.is

pub returns-in-Ok-clause-comes : goal.returns-in-Ok-clause-comes
returns-in-Ok-clause-comes c = no_fault c.args.parts.now c.evaluate_root.new.parts c.args.root.0 c.args.error c.in-Ok.promise c.in-None.is c.in-Ok.ensures.evaluates

pub returns-in-Err-clause-comes : goal.returns-in-Err-clause-comes
returns-in-Err-clause-comes c = no_fault_stops c.args.parts.now c.evaluate_root.new.parts c.args.root.0 c.args.error c.in-Err.end c.in-None.is c.in-Err.ensures.evaluates
