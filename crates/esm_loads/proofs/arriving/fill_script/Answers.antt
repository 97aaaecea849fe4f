use Rattle.std.proofs.Common.{ap, refl, subst, sym, ◌∙◌, ◌<◌, List, ◌++◌, ◌∷◌, [], length, Ok, Err, map}
use Rattle.std.specs.Arc.{arc_value}
use Rattle.std.proofs.lemmas.List.{map-append}
use Rattle.esm_tree.specs.Syntax.{Parts}
use Rattle.std.proofs.lemmas.List.Elements.{All-push}
use Rattle.esm_ast.specs.Entries.{requests_of}
use Rattle.esm_ast.specs.Spelled.{AreSpelled}
use Rattle.esm_ast.specs.Script.{spelled_text}
use Rattle.esm_base.specs.Urls.{Text}
use Rattle.esm_specifier.specs.Targets.{targets_view}
use Rattle.esm_realm.specs.Sound.{records_of, new_record}
use Rattle.esm_values.specs.Errors.{make_error, fault}
use Rattle.esm_values.specs.declared.errors.FaultKind.TheVariants.{TypeError}
use Rattle.esm_loads.specs.LoadsView.{tree_items}
use Rattle.esm_loads.specs.UrlTable.{told_targets}
use Rattle.esm_loads.specs.Fits.{HaveTexts}
use Rattle.esm_loads.specs.Inner.Arriving.Filled.{AsModule}
use Rattle.esm_loads.proofs.ArrivedEntry.{broken, sound_record, found_script, requests_are}
use Rattle.esm_loads.proofs.arriving.fill_script.Goals as goal

pub told-requires : goal.told-requires
told-requires c =
    let are = c.requests.ensures ∙ requests_are _ _ (c.entries.ensures.entries ∙ c.entries.ensures.of_tree) in
    λ refusal e.
    subst (λ (rs : List Text). refusal.place < length rs) (sym are)
    (c.refusals_are_requests.ensures c.args.import_map.now c.args.url.now (requests_of (spelled_text c.args.script.now).items) refusal (sym c.requires.targets ∙ e))

pub add-requires-clause-record : goal.add-requires-clause-record
add-requires-clause-record c =
    let found = (rw c.in-Ok.is at c.in_ok-found.ensures) in
    let requests = requests_of (spelled_text c.args.script.now).items in
    sound_record _ _ _ _ requests _ c.in_ok-clone-in-Ok.ensures c.requires.usable c.in_ok-entries.ensures c.entries.ensures.few c.entries.ensures.named (requests_are _ _ c.entries.ensures.of_tree)
    (c.targets_are_usable.ensures c.args.import_map.now c.args.url.now requests c.in-Ok.targets.items (sym c.requires.targets ∙ found))

pub returns-in_ok-id-in-Ok-clause-filled : goal.returns-in_ok-id-in-Ok-clause-filled
returns-in_ok-id-in-Ok-clause-filled c =
    let found = (rw c.in-Ok.is at c.in_ok-found.ensures) in
    let text = spelled_text c.args.script.now in
    let requests = requests_of text.items in
    rw c.in_ok-id-in-Ok.ensures.id (AsModule text.items c.in-Ok.targets.items
    (found_script c.args.import_map.now c.args.url.now text (Ok c.in-Ok.targets.items) (ap (told_targets c.args.url.now requests) (sym c.requires.targets ∙ found)))
    (ap (map tree_items) c.in_ok-push-in-Ok.ensures.items ∙ map-append tree_items c.args.trees.now.items _ ∙ ap (λ (t : Parts). map tree_items c.args.trees.now.items ++ t.items ∷ []) c.in_ok-share_tree-in-Ok.ensures)
    (c.in_ok-id-in-Ok.ensures.added ∙ ap (λ u. records_of c.args.realm.now ++ new_record u (arc_value c.in_ok-entries.entries) c.in-Ok.targets.items ∷ []) c.in_ok-clone-in-Ok.ensures
    ∙ ap (λ e. records_of c.args.realm.now ++ new_record c.args.url.now e c.in-Ok.targets.items ∷ []) (c.in_ok-entries.ensures ∙ c.entries.ensures.of_tree)) refl)

pub returns-in_ok-error-in-Err-clause-filled : goal.returns-in_ok-error-in-Err-clause-filled
returns-in_ok-error-in-Err-clause-filled c =
    let are = c.requests.ensures ∙ requests_are _ _ (c.entries.ensures.entries ∙ c.entries.ensures.of_tree) in
    let text = spelled_text c.args.script.now in
    broken _ _ _ _ _ _ _ c.in_ok-error-in-Err.ensures.id (found_script c.args.import_map.now c.args.url.now text (Err _)
    (ap (told_targets c.args.url.now (requests_of text.items)) (sym c.requires.targets) ∙ ap (λ rs. told_targets c.args.url.now rs (targets_view c.args.targets.now)) (sym are) ∙ (rw c.in-Err.is at c.in_ok-found.ensures))) refl refl
    (c.in_ok-error-in-Err.ensures.ok ∙ ap (λ m. make_error c.args.errors.now (fault TypeError m)) c.as_str.ensures.value)

-- the tree that is added is the script's, whose bytes spell it
pub returns-in_ok-id-in-Ok-clause-spelled : goal.returns-in_ok-id-in-Ok-clause-spelled
returns-in_ok-id-in-Ok-clause-spelled c before =
    let old = map tree_items c.args.trees.now.items in
    let items = c.args.script.now.tree.items in
    let is = ap (map tree_items) c.in_ok-push-in-Ok.ensures.items ∙ map-append tree_items c.args.trees.now.items _ ∙ ap (λ (t : Parts). old ++ t.items ∷ []) c.in_ok-share_tree-in-Ok.ensures in
    subst HaveTexts (sym is) (All-push AreSpelled old items before (c.args.script.now.bytes, c.tree-spelled.ensures.spelled))
