use Rattle.std.proofs.Common.{◌*◌, ◌+◌, vec_len}
use Rattle.esm_run.proofs.workers.+fn-with_workers-join+arg3+with_workers.Given as goal

abbrev pub decreases-join+arg3 : goal.decreases-join+arg3
decreases-join+arg3 g l = 2 * vec_len l.workers + 1

abbrev pub decreases-with_workers : goal.decreases-with_workers
decreases-with_workers g l = 2 * vec_len l.workers
