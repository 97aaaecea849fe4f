use Rattle.esm_rows.specs.Locals.{place_told}
use Rattle.esm_rows.specs.Rows.{write_by}
use Rattle.esm_rows.proofs.draft.Draft.put_write.Goals as goal

pub returns : goal.returns
returns c = λ row told. rw (← c.in_ok-place.ensures) (c.put.ensures row (write_by c.args.name.now (place_told c.in_ok-place.place)) (c.in_ok-at.ensures.same row told) (c.write_op.ensures _ c.args.name.now c.in_ok-at.ensures.text))
