use Rattle.std.proofs.Common.{refl}
use Rattle.esm_rows.proofs.draft.write_at.Goals as goal

pub returns-then-place : goal.returns-then-place
returns-then-place c = λ texts s e. rw c.if-place.true (s, e, refl)

pub returns-else-place : goal.returns-else-place
returns-else-place c = λ texts s e. rw c.if-place.false (s, e, refl)
