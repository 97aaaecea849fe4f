use Rattle.esm_row_laws.proofs.Operating as operating
use Rattle.esm_row_laws.proofs.laws.operations_pass.Goals as goal

pub returns : goal.returns
returns g c = record {
  text = λ s k vss vs m w callers how after h. h;
  truth = λ b k vss vs m w callers how after h. h;
  undefined = λ k vss vs m w callers how after h. h;
  or_stays = λ e es k vss v vs room h m w. operating.or_stays g.I.Imports.modules g.I.Imports.begins m w e es k vss v vs room h;
  or_goes = λ e es k vss v vs room h m w. operating.or_goes g.I.Imports.modules g.I.Imports.begins m w e es k vss v vs room h;
  and_stays = λ e es k vss v vs room h m w. operating.and_stays g.I.Imports.modules g.I.Imports.begins m w e es k vss v vs room h;
  and_goes = λ e es k vss v vs room h m w. operating.and_goes g.I.Imports.modules g.I.Imports.begins m w e es k vss v vs room h;
  compares = λ b cs k vss u v vs room m w. operating.compares g.I.Imports.modules g.I.Imports.begins m w b cs k vss u v vs room;
  turns = λ k vss v vs room m w. operating.turns g.I.Imports.modules g.I.Imports.begins m w k vss v vs room;
  drops = λ l rs vss v m w. operating.drops g.I.Imports.modules g.I.Imports.begins m w l rs vss v;
  chooses = λ ss others l rs vss v h m w. operating.chooses g.I.Imports.modules g.I.Imports.begins m w ss others l rs vss v h;
  skips = λ ss others l rs vss v h m w. operating.skips g.I.Imports.modules g.I.Imports.begins m w ss others l rs vss v h;
  opens = λ opening ss l rs vss m w. operating.opens g.I.Imports.modules g.I.Imports.begins m w opening ss l rs vss;
  leaves = λ ds l rs vs vss m w. operating.leaves g.I.Imports.modules g.I.Imports.begins m w ds l rs vs vss;
  leaves_first = λ ds others l rs vs vss m w. operating.leaves_first g.I.Imports.modules g.I.Imports.begins m w ds others l rs vs vss;
  leaves_tried = λ ds caught handler l rs vs vss m w. operating.leaves_tried g.I.Imports.modules g.I.Imports.begins m w ds caught handler l rs vs vss;
}
