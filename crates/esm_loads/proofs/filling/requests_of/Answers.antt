-- The record with this id.
use Rattle.std.proofs.Common.{◌≡◌, ap, sym, subst, arith, length, ◌∙◌}
use Rattle.std.specs.Prelude.{◌<◌}
use Rattle.esm_realm.specs.Sound.{RecordParts, parts_of}
use Rattle.esm_loads.proofs.Places.{index_get, map_long, some_is}
use Rattle.esm_loads.proofs.FillFacts.{parts_get}
use Rattle.esm_loads.proofs.filling.requests_of.Goals as goal

pub index-requires : goal.index-requires
index-requires c = let h = map_long parts_of c.args.realm.now.records.items in omega (arith, c.requires, h)

pub returns : goal.returns
returns c r e =
    let xs = c.args.realm.now.records.items in
    let inside = subst (λ n. c.args.id < n) (map_long parts_of xs) c.requires in
    let is = some_is (sym (parts_get xs c.args.id c.index.result.now (index_get xs c.args.id c.index.result.now inside c.index.ensures)) ∙ e) in
    let same : length c.index.result.now.targets.items ≡ length r.targets = ap (λ (r : RecordParts). length r.targets) is in
    omega (arith, c.len.ensures, same, c.index.result.now.targets.ok.0)
