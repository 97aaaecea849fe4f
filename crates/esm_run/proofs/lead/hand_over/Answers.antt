use Rattle.esm_run.proofs.lead.hand_over.Goals as goal

pub returns-in-Ok : goal.returns-in-Ok
returns-in-Ok c = c.in-Ok.ensures.1

pub returns-in-Err-Fault : goal.returns-in-Err-Fault
returns-in-Err-Fault c = (rw c.in-Err-Fault.field-0-is at c.in-Err-Fault.ensures).1
