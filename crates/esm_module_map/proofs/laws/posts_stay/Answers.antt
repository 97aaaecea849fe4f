use Rattle.esm_module_map.proofs.Staying.{post_stays}
use Rattle.esm_module_map.proofs.laws.posts_stay.Goals as goal

pub returns : goal.returns
returns g c = post_stays
