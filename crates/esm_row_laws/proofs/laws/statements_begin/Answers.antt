use Rattle.esm_row_laws.proofs.Beginning as beginning
use Rattle.esm_row_laws.proofs.laws.statements_begin.Goals as goal

pub returns : goal.returns
returns g c = record {
  row = λ st ss rs. beginning.row st ss rs;
  rest = λ st ss rs vss. beginning.rest ss rs vss st;
  steps = λ m st ss rs vss w late e. beginning.steps g.I.Imports.modules g.I.Imports.begins m rs vss st ss w late e;
  stops = λ m st ss rs vss w late why e callers. beginning.stops g.I.Imports.modules g.I.Imports.begins m rs vss st ss w late why e callers;
}
