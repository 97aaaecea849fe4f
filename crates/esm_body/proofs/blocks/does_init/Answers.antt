use Rattle.esm_body.proofs.blocks.does_init.Goals as goal

pub returns-in-Absent-clause-front : goal.returns-in-Absent-clause-front
returns-in-Absent-clause-front c = rw c.in-Absent.is c.add.ensures.front

pub returns-in-Plain-clause-front : goal.returns-in-Plain-clause-front
returns-in-Plain-clause-front c = rw c.in-Plain.is c.does.ensures.front

pub returns-in-Awaited-clause-front : goal.returns-in-Awaited-clause-front
returns-in-Awaited-clause-front c = rw c.in-Awaited.is c.does-in-Awaited.ensures.front
