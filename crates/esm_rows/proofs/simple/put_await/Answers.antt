use Rattle.std.proofs.Common.{◌∷◌, refl}
use Rattle.esm_rows.specs.Rows.{Operation as o}
use Rattle.esm_rows.proofs.simple.put_await.Goals as goal

pub returns : goal.returns
returns c = λ row told. c.put_expr.ensures (o.Await ∷ row) (c.in_ok-put.ensures row o.Await told refl)
