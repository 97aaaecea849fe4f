use Rattle.esm_row_laws.proofs.Landed as landed
use Rattle.esm_row_laws.proofs.laws.throws_land.Goals as goal

pub returns : goal.returns
returns g c = record {
  caught = λ m rs vss w late r v l h e. landed.caught g.I.Imports.modules g.I.Imports.begins m v rs vss w late r l h e;
  leaves = λ m rs vss w late r v h e. landed.leaves g.I.Imports.modules g.I.Imports.begins m v rs vss w late r h e;
  handles = λ caught handler l rs vss v m w. landed.handles g.I.Imports.modules g.I.Imports.begins m v caught handler l rs vss w;
}
