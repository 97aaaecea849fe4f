use Rattle.esm_loads.proofs.Pending.{one_url_at_a_time}
use Rattle.esm_loads.proofs.laws.one_url_at_a_time.Goals as goal

pub returns : goal.returns
returns c = one_url_at_a_time
