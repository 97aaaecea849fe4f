use Rattle.std.proofs.Common.{◌≡◌}
use Rattle.esm_module_map.specs.Views.{table_of}
use Rattle.esm_example_tests.proofs.workers.lead.Given as goal

abbrev pub invariant-loop : goal.invariant-loop
invariant-loop g l = table_of l.modules.lock.table.shared.table_id l.caller.pass ≡ l.modules.lock.table.shared.table_id
