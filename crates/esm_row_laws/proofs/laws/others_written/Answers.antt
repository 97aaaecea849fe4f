use Rattle.esm_row_laws.proofs.Assigning as assigning
use Rattle.esm_row_laws.proofs.laws.others_written.Goals as goal

pub returns : goal.returns
returns g c = λ m l rs vss w late name v thrown fit e is. assigning.others g.I.Imports.modules g.I.Imports.begins m l w name v rs vss late thrown fit e is
