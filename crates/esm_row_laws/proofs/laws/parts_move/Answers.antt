use Rattle.esm_row_laws.proofs.Moves as moves
use Rattle.esm_row_laws.proofs.laws.parts_move.Goals as goal

pub returns : goal.returns
returns g c = record {
  goes = λ m k vss vs w late e f room h. moves.goes g.I.Imports.modules g.I.Imports.begins m k vss vs room w late e f h;
  throws = λ m k vss vs w late e v room h. moves.throws g.I.Imports.modules g.I.Imports.begins m k vss vs room w late e v h;
  stops = λ m k vss vs w late e why callers room h. moves.stops g.I.Imports.modules g.I.Imports.begins m k vss vs room w late e why callers h;
}
