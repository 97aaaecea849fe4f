use Rattle.std.proofs.Common.{◌≡◌}
use Rattle.esm_module_map.specs.Views.{table_of}
use Rattle.esm_map_tests.proofs.module_map.ask_numbers.Given as goal

abbrev pub invariant-loop-number : goal.invariant-loop-number
invariant-loop-number g l = table_of l.map.lock.table.shared.table_id l.caller.pass ≡ l.map.lock.table.shared.table_id
