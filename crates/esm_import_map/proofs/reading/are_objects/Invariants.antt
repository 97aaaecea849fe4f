use Rattle.std.proofs.Common.{◌≡◌}
use Rattle.serde_json.specs.View.{members_view}
use Rattle.esm_import_map.specs.Reading.{are_objects}
use Rattle.esm_import_map.proofs.reading.are_objects.Given as goal

abbrev pub invariant-loop-value : goal.invariant-loop-value
invariant-loop-value l = are_objects (members_view l.value-iterator) ≡ are_objects (members_view l.members.entries)
