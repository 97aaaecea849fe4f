use Rattle.esm_row_machine.proofs.uses.write_name.Goals as goal

pub returns-in-Some : goal.returns-in-Some
returns-in-Some g c = rw c.in-Some.is c.assign.ensures
