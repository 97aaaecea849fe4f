use Rattle.std.proofs.Common.{refl}
use Rattle.esm_rows.specs.Rows.{Operation as o}
use Rattle.esm_rows.proofs.simple.put_assign.Goals as goal

pub returns : goal.returns
returns c = λ row told. c.put.ensures _ o.Step (c.in_ok-put_init.ensures _ (c.in_ok-put_write.ensures row told)) refl
