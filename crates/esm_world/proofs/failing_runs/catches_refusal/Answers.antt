use Rattle.esm_world.proofs.runs.CaughtRefusal.{catches_refusal}
use Rattle.esm_world.proofs.failing_runs.catches_refusal.Goals as goal

pub returns : goal.returns
returns c = catches_refusal
