use Rattle.esm_row_laws.proofs.Moves as moves
use Rattle.esm_row_laws.proofs.laws.names_read.Goals as goal

pub returns : goal.returns
returns g c = record {
  own = λ m k vss vs w name place constant v room fit e at. moves.own g.I.Imports.modules g.I.Imports.begins m k vss vs room w name place constant v fit e at;
  other = λ m k vss vs w name read room fit e h. moves.other g.I.Imports.modules g.I.Imports.begins m k vss vs room w name read fit e h;
}
