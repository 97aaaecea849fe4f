use Rattle.std.proofs.Common.{refl}
use Rattle.esm_row_machine.proofs.uses.wrote.Goals as goal

pub returns-in-Err : goal.returns-in-Err
returns-in-Err c = λ vs. rw c.in-Err.is refl
