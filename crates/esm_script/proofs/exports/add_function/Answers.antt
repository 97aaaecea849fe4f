use Rattle.esm_base.specs.DefaultExport.{or_star_default}
use Rattle.esm_script.proofs.exports.add_function.Goals as goal

pub returns-in_ok-local-in-Some : goal.returns-in_ok-local-in-Some
unfolding or_star_default
returns-in_ok-local-in-Some c = rw c.in-Some.is (rw (c.in_ok-exported-in-Some.ensures, c.in_ok-local-in-Some.ensures) at c.add_local.ensures)

pub returns-in-None : goal.returns-in-None
unfolding or_star_default
returns-in-None c = rw c.in-None.is c.add_value.ensures
