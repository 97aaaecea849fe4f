use Rattle.esm_row_machine.proofs.reading.read.Goals as goal

pub returns : goal.returns
returns g c = record { told = c.read-told.result; says = rw c.as_str.ensures at c.read-told.ensures; took = c.take.ensures }
