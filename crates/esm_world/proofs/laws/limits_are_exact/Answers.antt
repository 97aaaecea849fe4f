use Rattle.esm_world.proofs.LimitsExact.{limits_are_exact}
use Rattle.esm_world.proofs.laws.limits_are_exact.Goals as goal

pub returns : goal.returns
returns c = limits_are_exact
