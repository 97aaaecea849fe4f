use Rattle.std.proofs.Common.{◌≡◌, ◌++◌, drop}
use Rattle.std.specs.List.{flat_map}
use Rattle.esm_rows.specs.Making.{sum_tasks}
use Rattle.esm_rows.proofs.tasks.push_sums.Given as goal

-- what is there and what is left are the whole
abbrev pub invariant-loop-id : goal.invariant-loop-id
invariant-loop-id l = l.tasks.items ++ flat_map sum_tasks (drop l.id-index l.ids) ≡ l.fn.tasks.items ++ flat_map sum_tasks l.fn.ids
