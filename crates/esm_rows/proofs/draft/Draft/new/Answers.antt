use Rattle.esm_rows.specs.Making.{nothing_left}
use Rattle.esm_rows.proofs.draft.Draft.new.Goals as goal

pub returns : goal.returns
returns c = rw c.new.ensures.items nothing_left
