use Rattle.esm_promise.specs.Code.{settled_of}
use Rattle.esm_machine.proofs.EntryJobs.{entry_ends}
use Rattle.esm_machine.proofs.InOrder.{with_entry_in_order}
use Rattle.esm_machine.proofs.jobs.entry_done.Goals as goal

pub returns-clause-job : goal.returns-clause-job
returns-clause-job c = entry_ends c.args.parts.now c.ended_entry.result (settled_of c.args.how) c.ended_entry.ensures

pub returns-clause-order : goal.returns-clause-order
returns-clause-order c = with_entry_in_order c.args.parts.now c.requires.may.order c.ended_entry.result
