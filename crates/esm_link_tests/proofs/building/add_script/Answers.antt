use Rattle.std.proofs.Common.{ap, length, ◌∙◌, ◌++◌, ◌∷◌, [], map}
use Rattle.std.specs.Arc.{arc_value}
use Rattle.std.proofs.lemmas.List.{map-append}
use Rattle.esm_ast.specs.Entries.{EntryLists}
use Rattle.esm_realm.specs.Sound.{records_of, new_record}
use Rattle.esm_link_tests.proofs.Built.{built_push, sound_script}
use Rattle.esm_link_tests.proofs.building.add_script.Goals as goal

pub add-requires-clause-record : goal.add-requires-clause-record
add-requires-clause-record c =
    sound_script _ _ _ _ _ c.requires.usable c.in_ok-targets.ensures.usable c.in_ok-entries.ensures c.in_ok-targets.ensures.count
    (ap length c.requests.ensures ∙ ap (λ (e : EntryLists). length e.requests) c.entries.ensures.entries) c.entries.ensures.few c.entries.ensures.named

pub returns : goal.returns
returns c =
    let old = map arc_value c.args.site.now.trees.items in
    built_push old _ (records_of c.args.site.now.realm) _ c.args.script.now.tree c.args.url c.args.script.now.entries c.in_ok-targets.targets.items
    c.requires.built (c.args.script.now.bytes, c.tree-spelled.ensures.spelled) c.entries.ensures.of_tree
    (ap (map arc_value) c.in_ok-push.ensures.items ∙ map-append arc_value c.args.site.now.trees.items _ ∙ ap (λ t. old ++ t ∷ []) c.in_ok-share_tree.ensures)
    (c.in_ok-_id.ensures.added ∙ ap (λ e. records_of c.args.site.now.realm ++ new_record c.args.url e c.in_ok-targets.targets.items ∷ []) c.in_ok-entries.ensures)
    c.in_ok-_id.ensures.sound
