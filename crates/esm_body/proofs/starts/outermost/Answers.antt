use Rattle.std.proofs.Common.{refl}
use Rattle.esm_body.proofs.starts.outermost.Goals as goal

pub returns-then-is_begun : goal.returns-then-is_begun
returns-then-is_begun c = rw (c.if-is_begun.ensures refl, c.in_ok-levels.ensures.items) (refl, refl)
