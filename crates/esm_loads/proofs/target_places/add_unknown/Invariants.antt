-- So many were added.
use Rattle.std.proofs.Common.{◌≡◌, ◌++◌, replicate}
use Rattle.esm_loads.proofs.target_places.add_unknown.Given as goal

abbrev pub invariant-loop-added : goal.invariant-loop-added
invariant-loop-added l = l.places.items ≡ l.fn.places.items ++ replicate l.added 4096
