use Rattle.esm_world.proofs.OneRun.{run_one}
use Rattle.esm_world.proofs.laws.one_standard_run.Goals as goal

pub returns : goal.returns
returns c maps built entry trace deliveries one other p q = run_one maps built entry trace deliveries one other p q
