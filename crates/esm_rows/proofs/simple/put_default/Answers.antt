use Rattle.std.proofs.Common.{refl}
use Rattle.esm_base.specs.DefaultExport.{star_default}
use Rattle.esm_rows.specs.Rows.{Operation as o}
use Rattle.esm_rows.proofs.simple.put_default.Goals as goal

pub returns : goal.returns
unfolding star_default
returns c = λ row told. c.put.ensures _ o.Step (c.in_ok-put_declared.ensures row told) refl
