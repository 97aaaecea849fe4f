use Rattle.esm_world.proofs.runs.ThrownBehindAwait.{throws_behind_await}
use Rattle.esm_world.proofs.failing_runs.throws_behind_await.Goals as goal

pub returns : goal.returns
returns c = throws_behind_await
