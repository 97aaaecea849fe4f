use Rattle.std.proofs.Common.{refl}
use Rattle.esm_rows.specs.Rows.{Operation as o}
use Rattle.esm_rows.proofs.simple.put_declaration.Goals as goal

pub returns : goal.returns
returns c = λ row told. c.put.ensures _ o.Step (c.in_ok-put_bindings.ensures row told) refl
