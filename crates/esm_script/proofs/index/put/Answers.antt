use Rattle.std.proofs.Common.{ap, ◌∙◌, Some}
use Rattle.std.specs.Prelude.{option_map, bytes_eq}
use Rattle.std.specs.BTreeMap.{get_by}
use Rattle.std.specs.Cmp.Lexicographic.{slice_cmp}
use Rattle.std.specs.Ordering.{nat_cmp}
use Rattle.std.specs.Map.{update}
use Rattle.std.proofs.lemmas.Map.Text.{btree_map_updates_str}
use Rattle.esm_script.specs.Inner.{found_in}
use Rattle.esm_script.proofs.Exported.{updates}
use Rattle.esm_script.proofs.index.put.Goals as goal

pub returns : goal.returns
returns c = λ name.
    ap (option_map (λ x. x.now)) (btree_map_updates_str c.as_str.result.now c.args.by_local.now c.insert.new.self _ c.in_ok-insert.ensures.updates name)
    ∙ updates c.as_str.result.now c.args.entry (λ m. get_by (λ k. slice_cmp nat_cmp m k.now) c.args.by_local.now) name
    ∙ ap (λ local. update bytes_eq (found_in c.args.by_local.now) local (Some c.args.entry.now) name) c.as_str.ensures.value
