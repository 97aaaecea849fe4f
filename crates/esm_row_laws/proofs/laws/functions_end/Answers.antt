use Rattle.esm_row_laws.proofs.Landed as landed
use Rattle.esm_row_laws.proofs.laws.functions_end.Goals as goal

pub returns : goal.returns
returns g c = record {
  returns = λ m l rs vss v w. landed.returns g.I.Imports.modules g.I.Imports.begins m v l rs vss w;
  ends = λ m ds vs w. landed.ends g.I.Imports.modules g.I.Imports.begins m ds vs w;
}
