use Rattle.std.proofs.Common.{nat_eq}
use Rattle.esm_row_laws.proofs.Plugged as plugged
use Rattle.esm_row_laws.proofs.laws.parts_rewrite.Goals as goal

pub returns : goal.returns
returns g c = record {
  goes = λ k vs f room m e w after h. plugged.goes nat_eq g.I.Imports.modules g.I.Imports.begins m k vs w after e f room h;
  leaves = λ k vs v room m e w after h. plugged.leaves nat_eq g.I.Imports.modules g.I.Imports.begins m k vs v w after e room h;
  calls = λ k vs u us f room m e w after h. plugged.calls nat_eq g.I.Imports.modules g.I.Imports.begins m k vs u us w after e f room h;
  stops = λ k vs why room m e w after h. plugged.stops nat_eq g.I.Imports.modules g.I.Imports.begins m k vs why w after e room h;
}
