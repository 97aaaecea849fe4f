use Rattle.esm_rows.proofs.lowering.function_row.Goals as goal

pub returns : goal.returns
returns c = λ name. c.in_ok-row.ensures name
