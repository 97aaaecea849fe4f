use Rattle.esm_world.proofs.runs.TwoTasks.{two_tasks}
use Rattle.esm_world.proofs.two_tasks.asks_twice.Goals as goal

pub returns : goal.returns
returns c = two_tasks
