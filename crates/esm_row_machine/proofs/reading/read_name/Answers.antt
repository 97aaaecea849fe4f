use Rattle.esm_row_machine.proofs.reading.read_name.Goals as goal

pub returns-in-Some : goal.returns-in-Some
returns-in-Some g c = rw c.in-Some.is c.read.ensures
