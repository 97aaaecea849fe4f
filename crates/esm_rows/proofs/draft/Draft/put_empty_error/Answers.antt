use Rattle.std.proofs.Common.{refl}
use Rattle.esm_rows.specs.Rows.{Operation as o}
use Rattle.esm_rows.proofs.draft.Draft.put_empty_error.Goals as goal

pub returns : goal.returns
returns c = λ row told. c.put-2.ensures _ o.Undefined (c.in_ok-put.ensures row o.NewError told refl) refl
