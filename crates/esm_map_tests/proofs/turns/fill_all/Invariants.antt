use Rattle.std.proofs.Common.{◌≡◌, ◌++◌, map, drop}
use Rattle.esm_module_map.specs.Batches.{number_filled, number_ordered}
use Rattle.esm_map_tests.proofs.turns.fill_all.Given as goal

-- so far, and those that are left
abbrev pub invariant-loop-order : goal.invariant-loop-order
invariant-loop-order g l = map number_filled l.filled.items ++ map number_ordered (drop l.order-index l.orders) ≡ map number_ordered l.orders
