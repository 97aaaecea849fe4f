use Rattle.std.proofs.Common.{refl}
use Rattle.esm_rows.specs.Rows.{Operation as o}
use Rattle.esm_rows.proofs.draft.Draft.put_literal.Goals as goal

pub returns : goal.returns
returns c = λ row told. c.put.ensures row (o.Text c.args.text.now) (c.in_ok-at.ensures.same row told) (c.args.text.now, c.in_ok-at.ensures.text, refl)
