use Rattle.esm_rows.proofs.Made as made
use Rattle.esm_rows.proofs.laws.tables_grow.Goals as goal

pub returns : goal.returns
returns c = record { same = λ owns texts more ops d h. made.same owns texts more ops d h; text = λ texts s make. made.text texts s make }
