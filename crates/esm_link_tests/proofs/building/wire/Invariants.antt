use Rattle.std.proofs.Common.{◌≡◌, length, map}
use Rattle.std.specs.Arc.{arc_value}
use Rattle.esm_realm.specs.Sound.{records_of}
use Rattle.esm_link_tests.specs.Built.{IsBuilt}
use Rattle.esm_link_tests.proofs.building.wire.Given as goal

abbrev pub invariant-loop-i : goal.invariant-loop-i
invariant-loop-i l = record {
  built : IsBuilt (map arc_value l.site.trees.items) (records_of l.site.realm);
  many : length (records_of l.site.realm) ≡ length (records_of l.fn.site.realm);
}
