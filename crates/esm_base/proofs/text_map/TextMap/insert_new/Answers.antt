use Rattle.std.proofs.Common.{sym, ◌∙◌, string_bytes}
use Rattle.esm_base.proofs.TextMaps.{has-seen, put-seen, with_new-there}
use Rattle.esm_base.proofs.text_map.TextMap.insert_new.Goals as goal

pub returns-then-contains_key-clause-inserted : goal.returns-then-contains_key-clause-inserted
returns-then-contains_key-clause-inserted g c =
    let same = has-seen c.as_str.result.now (string_bytes c.args.key) c.self.inside.tree.entries c.args.self.now c.as_str.ensures.value c.self.view_is in
    with_new-there (string_bytes c.args.key) c.args.value c.args.self.now (sym same ∙ sym c.contains_key.ensures ∙ c.if-contains_key.true)

pub returns-in-Ok-clause-inserted : goal.returns-in-Ok-clause-inserted
returns-in-Ok-clause-inserted g c =
    let same = has-seen c.as_str.result.now (string_bytes c.args.key) c.self.inside.tree.entries c.args.self.now c.as_str.ensures.value c.self.view_is in
    put-seen c.args.key c.args.value c.self.inside.tree.entries _ c.args.self.now c.self.view_is c.in-Ok.ensures.entries (sym same ∙ sym c.contains_key.ensures ∙ c.if-contains_key.false)
