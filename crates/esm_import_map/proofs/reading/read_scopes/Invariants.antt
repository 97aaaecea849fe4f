use Rattle.std.proofs.Common.{◌≡◌, []}
use Rattle.serde_json.specs.View.{members_view}
use Rattle.esm_import_map.specs.Reading.{normalized_scopes}
use Rattle.esm_import_map.proofs.reading.read_scopes.Given as goal

abbrev pub invariant-loop-prefix : goal.invariant-loop-prefix
invariant-loop-prefix l = normalized_scopes l.base (members_view l.prefix-iterator) l.scopes ≡ normalized_scopes l.base (members_view l.fn.members.entries) []
