use Rattle.std.proofs.Common.{refl}
use Rattle.esm_rows.specs.Rows.{Operation as o}
use Rattle.esm_rows.proofs.simple.put_return.Goals as goal

pub returns : goal.returns
returns c = λ row told. c.put-3.ensures _ o.Step (c.in_ok-put-2.ensures _ o.Undefined (c.in_ok-put.ensures row o.Return told refl) refl) refl
