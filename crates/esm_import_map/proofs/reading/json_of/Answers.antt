use Rattle.std.proofs.Common.{◌≡◌, true, nat_le, length, arith}
use Rattle.std.proofs.lemmas.Grind.{common_steps}
use Rattle.serde_json.specs.View.{view}
use Rattle.esm_import_map.proofs.Json.{json_of-read, json_of-refused}
use Rattle.esm_import_map.proofs.reading.json_of.Goals as goal

pub returns-in-Ok : goal.returns-in-Ok
returns-in-Ok c =
    let short : nat_le (length c.args.bytes.now) 1048576 ≡ true = grind (arith, common_steps) in
    json_of-read c.args.bytes.now c.without_mark.result.now (view c.in-Ok.value) c.without_mark.ensures short c.in-Ok.ensures.ok

pub returns-in_default : goal.returns-in_default
returns-in_default c = json_of-refused c.args.bytes.now c.without_mark.result.now c.without_mark.ensures (c.in-Err.ensures.err (λ m. c.in_default.not-Memory (c.classify.ensures.memory.1 m)))
