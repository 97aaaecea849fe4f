use Rattle.std.proofs.Common.{length}
use Rattle.esm_link_tests.proofs.building.+is_fresh.Given as goal

abbrev pub decreases-is_fresh : goal.decreases-is_fresh
decreases-is_fresh l = length l.records.now
