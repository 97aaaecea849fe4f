use Rattle.std.proofs.Common.{◌≡◌}
use Rattle.esm_module_map.specs.Views.{table_of}
use Rattle.esm_map_tests.proofs.calls.answers_are.Given as goal

abbrev pub invariant-loop-step : goal.invariant-loop-step
invariant-loop-step g l = table_of l.map.lock.table.shared.table_id l.caller.pass ≡ l.map.lock.table.shared.table_id
