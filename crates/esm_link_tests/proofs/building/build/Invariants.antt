use Rattle.std.proofs.Common.{◌≡◌, length, map}
use Rattle.std.specs.Arc.{arc_value}
use Rattle.esm_realm.specs.Sound.{records_of}
use Rattle.esm_link_tests.specs.Built.{IsBuilt}
use Rattle.esm_link_tests.proofs.building.build.Given as goal

abbrev pub invariant-loop-part : goal.invariant-loop-part
invariant-loop-part l = IsBuilt (map arc_value l.site.trees.items) (records_of l.site.realm)

abbrev pub invariant-loop-m : goal.invariant-loop-m
invariant-loop-m l = record {
  built : IsBuilt (map arc_value l.site.trees.items) (records_of l.site.realm);
  many : length (records_of l.site.realm) ≡ l.many;
}
