use Rattle.std.proofs.Common.{nat_eq}
use Rattle.esm_row_laws.proofs.Settling as settling
use Rattle.esm_row_laws.proofs.laws.settles.Goals as goal

pub returns : goal.returns
returns g c = record {
  row = λ s vs. settling.same_row s vs;
  own = λ s vs h. settling.own s vs h;
  room = λ s vs h. settling.same_room s vs h;
  leads = λ m names w s vs h. settling.leads nat_eq g.I.Imports.modules g.I.Imports.begins m names w s vs h;
}
