use Rattle.esm_base.specs.DefaultExport.{star_default}
use Rattle.esm_script.proofs.exports.add_value.Goals as goal

pub returns : goal.returns
unfolding star_default
returns c = rw (c.in_ok-name.ensures, c.in_ok-local.ensures) at c.add_local.ensures
