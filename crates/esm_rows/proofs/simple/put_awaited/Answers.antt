use Rattle.std.proofs.Common.{refl}
use Rattle.esm_rows.specs.Rows.{Operation as o}
use Rattle.esm_rows.proofs.simple.put_awaited.Goals as goal

pub returns : goal.returns
returns c = λ row p told is. c.put-2.ensures _ o.Step (c.in_ok-put_await.ensures _ (c.in_ok-put.ensures row p told is)) refl
