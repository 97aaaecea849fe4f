use Rattle.std.proofs.Common.{◌≡◌, length}
use Rattle.std.specs.Prelude.{All}
use Rattle.esm_base.specs.Urls.{IsUsable}
use Rattle.esm_link_tests.proofs.building.repeated.Given as goal

abbrev pub invariant-loop : goal.invariant-loop
invariant-loop l = record { usable : All IsUsable l.targets.items; count : length l.targets.items ≡ l.counter }
