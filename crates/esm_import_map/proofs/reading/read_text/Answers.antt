use Rattle.std.proofs.Common.{codes, rules}
use Rattle.serde_json.specs.View.{view, members_view}
use Rattle.esm_import_map.proofs.Json.{named, named_next, tells_parts}
use Rattle.esm_import_map.proofs.reading.read_text.Goals as goal

pub returns : goal.returns
returns c =
    let es = c.in-Some-object_of.members.entries in
    tells_parts c.read_parts.result c.args.base.now c.args.bytes.now (view c.in-Some.value) (members_view es) _ _ (search rules) (search rules) (named (codes "imports") c.remove-imports.result es c.remove-imports.ensures.value) (named_next c.remove-scopes.result es _ c.remove-imports.ensures.entries c.remove-scopes.ensures.value) c.read_parts.ensures
