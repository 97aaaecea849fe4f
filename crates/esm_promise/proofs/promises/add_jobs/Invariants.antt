use Rattle.std.proofs.Common.{◌≡◌, ◌+◌, ◌++◌, take}
use Rattle.std.specs.VecDeque.{deque_len, deque_capacity}
use Rattle.esm_promise.specs.Inner.Queue.{jobs_for}
use Rattle.esm_promise.proofs.promises.add_jobs.Given as goal

abbrev pub invariant-loop-i : goal.invariant-loop-i
invariant-loop-i l = record {
  items : l.jobs.items ≡ l.initial.jobs.items ++ jobs_for l.promise (take l.i l.reactions);
  len : deque_len l.jobs ≡ deque_len l.initial.jobs + l.i;
  capacity : deque_capacity l.jobs ≡ deque_capacity l.initial.jobs;
}
