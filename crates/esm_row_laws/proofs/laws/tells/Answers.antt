use Rattle.esm_row_laws.proofs.Telling.{told}
use Rattle.esm_row_laws.proofs.laws.tells.Goals as goal

pub returns : goal.returns
returns c = λ s op c h e. told s op c h e
