use Rattle.esm_values.specs.Code.{numbered}
use Rattle.esm_rows.specs.Rows.{found_at}
use Rattle.esm_row_laws.proofs.Placing as placing
use Rattle.esm_row_laws.proofs.laws.names_have_places.Goals as goal

pub returns : goal.returns
returns c = record {
  found = λ rs vss x place constant h e. placing.found numbered x rs vss (found_at place constant) h e;
  none = λ rs vss x h e. placing.none numbered x rs vss h e;
}
