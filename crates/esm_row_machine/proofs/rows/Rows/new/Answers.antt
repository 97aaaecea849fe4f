use Rattle.std.proofs.Common.{refl}
use Rattle.esm_row_machine.proofs.rows.Rows.new.Goals as goal

pub returns : goal.returns
returns c = λ m k. rw c.new.ensures.items refl
