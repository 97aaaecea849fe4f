use Rattle.esm_world.proofs.runs.Live.{live_binding}
use Rattle.esm_world.proofs.examples.live_binding.Goals as goal

pub returns : goal.returns
returns c = live_binding
