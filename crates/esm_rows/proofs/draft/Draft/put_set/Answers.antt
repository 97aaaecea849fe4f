use Rattle.esm_rows.specs.Locals.{place_told}
use Rattle.esm_rows.specs.Rows.{set_by}
use Rattle.esm_rows.proofs.draft.Draft.put_set.Goals as goal

pub returns : goal.returns
returns c = λ row told. rw (← c.in_ok-place.ensures) (c.put.ensures row (set_by c.args.name.now (place_told c.in_ok-place.place)) (c.in_ok-at.ensures.same row told) (c.set_op.ensures _ c.args.name.now c.in_ok-at.ensures.text))
