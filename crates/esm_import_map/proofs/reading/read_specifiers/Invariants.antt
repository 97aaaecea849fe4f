use Rattle.std.proofs.Common.{◌≡◌, []}
use Rattle.serde_json.specs.View.{members_view}
use Rattle.esm_import_map.specs.Reading.{normalized}
use Rattle.esm_import_map.proofs.reading.read_specifiers.Given as goal

abbrev pub invariant-loop-key : goal.invariant-loop-key
invariant-loop-key l = normalized l.base (members_view l.key-iterator) l.map ≡ normalized l.base (members_view l.members.entries) []
