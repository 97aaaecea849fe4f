use Rattle.std.proofs.Common.{refl}
use Rattle.esm_rows.proofs.draft.set_op.Goals as goal

pub returns-in-Some : goal.returns-in-Some
returns-in-Some c = λ texts s e. rw c.in-Some.is refl

pub returns-in-None : goal.returns-in-None
returns-in-None c = λ texts s e. rw c.in-None.is (s, e, refl)
