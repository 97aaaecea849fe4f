use Rattle.esm_row_machine.proofs.runs.go_on.Goals as goal

pub turns-requires : goal.turns-requires
turns-requires g c = c.in-Some.ensures

pub returns-in-Some : goal.returns-in-Some
returns-in-Some g c = c.turns.ensures
