-- The record with this id.
use Rattle.std.proofs.Common.{◌≡◌, Some, sym, subst, arith, length, ◌∙◌}
use Rattle.std.specs.Prelude.{◌<◌, slice_get}
use Rattle.esm_realm.specs.Sound.{RecordParts, parts_of}
use Rattle.esm_loads.proofs.Places.{index_get, map_long, some_is}
use Rattle.esm_loads.proofs.FillFacts.{parts_get}
use Rattle.esm_loads.proofs.filling.target_of.Goals as goal

pub index-requires : goal.index-requires
index-requires c = let h = map_long parts_of c.args.realm.now.records.items in omega (arith, c.requires.id, h)

pub index-requires-2 : goal.index-requires-2
index-requires-2 c =
    let xs = c.args.realm.now.records.items in
    let inside = subst (λ n. c.args.id.0 < n) (map_long parts_of xs) c.requires.id in
    let at = parts_get xs c.args.id.0 c.index.result.now (index_get xs c.args.id.0 c.index.result.now inside c.index.ensures) in
    let within : c.args.request < length c.index.result.now.targets.items = c.requires.request _ at in
    omega (arith, within, c.index.result.now.targets.ok.0)

pub returns : goal.returns
returns c r e =
    let xs = c.args.realm.now.records.items in
    let inside = subst (λ n. c.args.id.0 < n) (map_long parts_of xs) c.requires.id in
    let at = parts_get xs c.args.id.0 c.index.result.now (index_get xs c.args.id.0 c.index.result.now inside c.index.ensures) in
    subst (λ (r : RecordParts). slice_get r.targets c.args.request ≡ Some c.index-2.result.now) (some_is (sym at ∙ e))
    (index_get c.index.result.now.targets.items c.args.request c.index-2.result.now (c.requires.request _ at) c.index-2.ensures)
