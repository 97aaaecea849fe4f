use Rattle.std.proofs.Common.{◌≡◌, ◌++◌, drop}
use Rattle.std.specs.List.{flat_map}
use Rattle.esm_rows.specs.Making.{compare_tasks}
use Rattle.esm_rows.proofs.tasks.push_compared.Given as goal

-- what is there and what is left are the whole
abbrev pub invariant-loop-part : goal.invariant-loop-part
invariant-loop-part l = l.tasks.items ++ flat_map compare_tasks (drop l.part-index l.parts) ≡ l.fn.tasks.items ++ flat_map compare_tasks l.fn.parts
